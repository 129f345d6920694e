-- Strangers whose bytes change.
use Rattle.std.proofs.Common.{◌≡◌, ℕ, Bool, true, false, cond, List, [], ◌∷◌, ◌++◌, map}
use Rattle.std.proofs.Common.{Some, None, bytes_eq, refl, sym, ap, ◌∙◌, inl, inr}
use Rattle.std.specs.Prelude.{option_map, find}
use Rattle.std.specs.List.{AllByRecursion}
use Rattle.std.proofs.lemmas.Bool.{cases_Bool}
use Rattle.std.proofs.lemmas.Slice.Eq.{bytes_eq-Decides}
use Rattle.mqtt_world_model.specs.model.World.{Stranger}
use Rattle.mqtt_world_model.specs.single_steps.Unrolled.{HoldsThese}

abbrev pub its : List ℕ → Stranger → Bool
its name s = bytes_eq s.name name

-- those of this name hold other bytes
abbrev pub held_by : (List ℕ → List ℕ) → Stranger → Stranger
held_by f s = record s { held = f s.held }

abbrev pub changed : List ℕ → (List ℕ → List ℕ) → Stranger → Stranger
changed name f s = cond (bytes_eq s.name name) (held_by f s) s

-- what changes what a stranger holds keeps its name
pub name_stays : (name : List ℕ) (f : List ℕ → List ℕ) (s : Stranger) → (changed name f s).name ≡ s.name
name_stays name f s = by (bytes_eq s.name name)
  where
    by : (t : Bool) → (cond t (held_by f s) s).name ≡ s.name
    by true = refl
    by false = refl

-- who is found holds what was made of it
pub find_changed : (name : List ℕ) (f : List ℕ → List ℕ) (ss : List Stranger)
    → find (its name) (map (changed name f) ss) ≡ option_map (held_by f) (find (its name) ss)
find_changed name f [] = refl
find_changed name f (s ∷ ss) = elim (cases_Bool (bytes_eq s.name name)) [
  | inl is ↦ rw is (rw is refl)
  | inr other ↦ rw (other, other) (find_changed name f ss)
]

-- so do all of its name
pub holds_changed : (name held : List ℕ) (f : List ℕ → List ℕ) (ss : List Stranger) → AllByRecursion (HoldsThese name held) ss
    → AllByRecursion (HoldsThese name (f held)) (map (changed name f) ss)
holds_changed name held f [] h = tt
holds_changed name held f (s ∷ ss) h = (by (bytes_eq s.name name) refl, holds_changed name held f ss h.1)
  where
    by : (t : Bool) → bytes_eq s.name name ≡ t → HoldsThese name (f held) (cond t (held_by f s) s)
    by true e = λ is. ap f (h.0 e)
    by false e = λ is. let clash : false ≡ true = sym e ∙ is in absurd cc

-- what is one change of the bytes that they hold
pub same_changes : (name held : List ℕ) (f g : List ℕ → List ℕ) (ss : List Stranger) → AllByRecursion (HoldsThese name held) ss
    → f held ≡ g held → map (changed name f) ss ≡ map (changed name g) ss
same_changes name held f g [] h e = refl
same_changes name held f g (s ∷ ss) h e =
    ap (λ (x : Stranger). x ∷ map (changed name f) ss) (by (bytes_eq s.name name) refl)
    ∙ ap (λ (xs : List Stranger). changed name g s ∷ xs) (same_changes name held f g ss h.1 e)
  where
    by : (t : Bool) → bytes_eq s.name name ≡ t → cond t (held_by f s) s ≡ cond t (held_by g s) s
    by true is = ap (λ (bytes : List ℕ). record s { held = bytes }) (ap f (h.0 is) ∙ (e ∙ sym (ap g (h.0 is))))
    by false is = refl

-- two changes are one
pub twice_changed : (name : List ℕ) (f g : List ℕ → List ℕ) (ss : List Stranger)
    → map (changed name g) (map (changed name f) ss) ≡ map (changed name (λ (bytes : List ℕ). g (f bytes))) ss
twice_changed name f g [] = refl
twice_changed name f g (s ∷ ss) =
    ap (λ (x : Stranger). x ∷ map (changed name g) (map (changed name f) ss)) (by (bytes_eq s.name name) refl)
    ∙ ap (λ (xs : List Stranger). changed name (λ (bytes : List ℕ). g (f bytes)) s ∷ xs) (twice_changed name f g ss)
  where
    by : (t : Bool) → bytes_eq s.name name ≡ t → changed name g (cond t (held_by f s) s) ≡ cond t (held_by (λ (bytes : List ℕ). g (f bytes)) s) s
    by true is = rw is refl
    by false is = rw is refl

-- no change leaves all as they were
pub unchanged : (name : List ℕ) (ss : List Stranger) → map (changed name (λ (bytes : List ℕ). bytes)) ss ≡ ss
unchanged name [] = refl
unchanged name (s ∷ ss) =
    ap (λ (x : Stranger). x ∷ map (changed name (λ (bytes : List ℕ). bytes)) ss) (by (bytes_eq s.name name))
    ∙ ap (λ (xs : List Stranger). s ∷ xs) (unchanged name ss)
  where
    by : (t : Bool) → cond t (held_by (λ (bytes : List ℕ). bytes) s) s ≡ s
    by true = refl
    by false = refl

-- a change that gives the same leaves all as they were
pub same_held : (name held : List ℕ) (f : List ℕ → List ℕ) (ss : List Stranger) → AllByRecursion (HoldsThese name held) ss
    → f held ≡ held → map (changed name f) ss ≡ ss
same_held name held f ss h e = same_changes name held f (λ (bytes : List ℕ). bytes) ss h e ∙ unchanged name ss

-- the one that is found holds what they all do
pub found_holds : (name held : List ℕ) (s : Stranger) (ss : List Stranger) → AllByRecursion (HoldsThese name held) ss
    → find (its name) ss ≡ Some s → s.held ≡ held
found_holds name held s [] h e = absurd cc
found_holds name held s (x ∷ ss) h e = elim (cases_Bool (bytes_eq x.name name)) [
  | inl is ↦
      let same : Some x ≡ Some s = sym (ap (λ (t : Bool). cond t (Some x) (find (its name) ss)) is) ∙ e in
      let same_s : x ≡ s = cc in
      ap (λ (z : Stranger). z.held) (sym same_s) ∙ h.0 is
  | inr other ↦ found_holds name held s ss h.1 (sym (ap (λ (t : Bool). cond t (Some x) (find (its name) ss)) other) ∙ e)
]

-- none of this name
pub none_holds : (name held : List ℕ) (ss : List Stranger) → find (its name) ss ≡ None → AllByRecursion (HoldsThese name held) ss
none_holds name held [] e = tt
none_holds name held (x ∷ ss) e = elim (cases_Bool (bytes_eq x.name name)) [
  | inl is ↦ let clash : Some x ≡ None = sym (ap (λ (t : Bool). cond t (Some x) (find (its name) ss)) is) ∙ e in absurd cc
  | inr other ↦ (
    λ is. let clash : true ≡ false = sym is ∙ other in absurd cc,
    none_holds name held ss (sym (ap (λ (t : Bool). cond t (Some x) (find (its name) ss)) other) ∙ e),
  )
]

-- one more who holds the same holds the same
pub holds_one_more : (name held : List ℕ) (s : Stranger) (ss : List Stranger) → AllByRecursion (HoldsThese name held) ss
    → s.held ≡ held → AllByRecursion (HoldsThese name held) (ss ++ s ∷ [])
holds_one_more name held s [] h e = (λ is. e, tt)
holds_one_more name held s (x ∷ ss) h e = (h.0, holds_one_more name held s ss h.1 e)

-- one more of a new name is found by it
pub find_one_more : (name : List ℕ) (s : Stranger) (ss : List Stranger) → s.name ≡ name → find (its name) ss ≡ None
    → find (its name) (ss ++ s ∷ []) ≡ Some s
find_one_more name s [] is e =
    let same : bytes_eq s.name name ≡ true = (bytes_eq-Decides s.name name).1 is in
    rw same refl
find_one_more name s (x ∷ ss) is e = elim (cases_Bool (bytes_eq x.name name)) [
  | inl same ↦ let clash : Some x ≡ None = sym (ap (λ (t : Bool). cond t (Some x) (find (its name) ss)) same) ∙ e in absurd cc
  | inr other ↦ rw other (find_one_more name s ss is (sym (ap (λ (t : Bool). cond t (Some x) (find (its name) ss)) other) ∙ e))
]

-- and is changed by it alone
pub change_one_more : (name : List ℕ) (f : List ℕ → List ℕ) (s : Stranger) (ss : List Stranger) → s.name ≡ name → find (its name) ss ≡ None
    → map (changed name f) (ss ++ s ∷ []) ≡ ss ++ held_by f s ∷ []
change_one_more name f s [] is e =
    let same : bytes_eq s.name name ≡ true = (bytes_eq-Decides s.name name).1 is in
    rw same refl
change_one_more name f s (x ∷ ss) is e = elim (cases_Bool (bytes_eq x.name name)) [
  | inl same ↦ let clash : Some x ≡ None = sym (ap (λ (t : Bool). cond t (Some x) (find (its name) ss)) same) ∙ e in absurd cc
  | inr other ↦
      rw other (ap (λ (xs : List Stranger). x ∷ xs) (change_one_more name f s ss is (sym (ap (λ (t : Bool). cond t (Some x) (find (its name) ss)) other) ∙ e)))
]

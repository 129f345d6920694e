-- Lists of ends: who is found by a name, when each end is changed, one end is, or a new one comes.
use Rattle.std.proofs.Common.{◌≡◌, ℕ, ◌≤◌, Bool, true, false, cond, ◌||◌, ◌⊎◌, List, [], ◌∷◌, ◌++◌, map, Option, Some, None, bytes_eq, refl, sym, ap, ◌∙◌, arith, inl, inr}
use Rattle.std.specs.Prelude.{⊤, option_map, find, is_some}
use Rattle.std.specs.List.{AllByRecursion}
use Rattle.std.proofs.lemmas.Bool.{cases_Bool}
use Rattle.std.proofs.lemmas.Slice.Eq.{bytes_eq-Decides}
use Rattle.mqtt_rules.proofs.step_lemmas.numbers.Copies.{each_append, each_more}
use Rattle.mqtt_rules.proofs.step_lemmas.acts.Leads.{found_passes}
use Rattle.mqtt_world_model.specs.model.Ends.{Publisher, Receiver}
use Rattle.mqtt_world_model.specs.model.Lines.{Line}
use Rattle.mqtt_world_model.specs.model.World.{World, publisher_named, receiver_named, with_publisher}
use Rattle.mqtt_world_laws.specs.acceptance.LineNumbers.{HasApart, IsApartFrom}

-- ---- of all

-- what is made of each item holds if it holds of each
pub all_mapped : {X Y : Type 0} (P : X → Type 0) (Q : Y → Type 0) (f : X → Y) (xs : List X) → ((x : X) → P x → Q (f x)) → AllByRecursion P xs → AllByRecursion Q (map f xs)
all_mapped P Q f [] h a = tt
all_mapped P Q f (x ∷ xs) h a = (h x a.0, all_mapped P Q f xs h a.1)

-- what holds of each item, and brings something else, brings it for each
pub all_turned : {X : Type 0} (P Q : X → Type 0) (xs : List X) → ((x : X) → P x → Q x) → AllByRecursion P xs → AllByRecursion Q xs
all_turned P Q xs h a = each_more P Q h xs a

-- and of one more
pub all_appended : {X : Type 0} (P : X → Type 0) (xs : List X) (x : X) → AllByRecursion P xs → P x → AllByRecursion P (xs ++ x ∷ [])
all_appended P xs x a h = each_append P xs (x ∷ []) a (h, tt)

-- ---- by name

-- nothing is asked of any
pub anything : {X : Type 0} (xs : List X) → AllByRecursion (λ (x : X). ⊤) xs
anything [] = tt
anything (x ∷ xs) = (tt, anything xs)

-- what is found by a name has it
pub named_by : {X : Type 0} (client : X → List ℕ) (c : List ℕ) (x : X) (xs : List X) → find (λ (y : X). bytes_eq (client y) c) xs ≡ Some x → client x ≡ c
named_by client c x xs e = (bytes_eq-Decides (client x) c).0 (found_passes (λ y. bytes_eq (client y) c) x xs e)

-- so has the publisher that a name finds
pub named_publisher : (c : List ℕ) (p : Publisher) (w : World) → publisher_named c w ≡ Some p → p.client ≡ c
named_publisher c p w e = named_by (λ (x : Publisher). x.client) c p w.publishers e

-- and the receiver
pub named_receiver : (c : List ℕ) (r : Receiver) (w : World) → receiver_named c w ≡ Some r → r.client ≡ c
named_receiver c r w e = named_by (λ (x : Receiver). x.client) c r w.receivers e

-- a name is that of the end that is found, or of another
pub whose : {X : Type 0} (c d : List ℕ) (o : Option X) → ((x : X) × (o ≡ Some x) × (d ≡ c)) ⊎ (is_some o ≡ true → d ≡ c → ⊥)
whose c d None = inr (λ there is. absurd cc)
whose c d (Some x) = elim (cases_Bool (bytes_eq d c)) [
  | inl its ↦ inl (x, refl, (bytes_eq-Decides d c).0 its)
  | inr other ↦ inr (λ there is. let yes_ = (bytes_eq-Decides d c).1 is in let clash : true ≡ false = sym yes_ ∙ other in absurd cc)
]

-- ---- each is changed, and keeps its name

-- what is found behind a change is what was found, changed
pub find_changed : {X : Type 0} (test : X → Bool) (f : X → X) → ((x : X) → test (f x) ≡ test x) → (xs : List X) → find test (map f xs) ≡ option_map f (find test xs)
find_changed test f h [] = refl
find_changed test f h (x ∷ xs) = elim (cases_Bool (test x)) [
  | inl its ↦ let new = h x ∙ its in rw (its, new) refl
  | inr other ↦ let new = h x ∙ other in rw (other, new) (find_changed test f h xs)
]

-- so it is of publishers
pub find_publisher : (c : List ℕ) (f : Publisher → Publisher) → ((p : Publisher) → (f p).client ≡ p.client) → (ps : List Publisher)
    → find (λ (p : Publisher). bytes_eq p.client c) (map f ps) ≡ option_map f (find (λ (p : Publisher). bytes_eq p.client c) ps)
find_publisher c f h ps = find_changed (λ (p : Publisher). bytes_eq p.client c) f (λ p. ap (λ (x : List ℕ). bytes_eq x c) (h p)) ps

-- and of receivers
pub find_receiver : (c : List ℕ) (f : Receiver → Receiver) → ((r : Receiver) → (f r).client ≡ r.client) → (rs : List Receiver)
    → find (λ (r : Receiver). bytes_eq r.client c) (map f rs) ≡ option_map f (find (λ (r : Receiver). bytes_eq r.client c) rs)
find_receiver c f h rs = find_changed (λ (r : Receiver). bytes_eq r.client c) f (λ r. ap (λ (x : List ℕ). bytes_eq x c) (h r)) rs

-- a change loses nothing
pub is_some_mapped : {X Y : Type 0} (f : X → Y) (o : Option X) → is_some (option_map f o) ≡ is_some o
is_some_mapped f None = refl
is_some_mapped f (Some x) = refl

-- ---- one is changed

-- a change of one keeps its name
pub only_named : {X : Type 0} (client : X → List ℕ) (t : Bool) (f : X → X) (x : X) → client (f x) ≡ client x → client (cond t (f x) x) ≡ client x
only_named client true f x h = h
only_named client false f x h = refl

-- so of a publisher
pub only_client : (t : Bool) (f : Publisher → Publisher) (p : Publisher) → (f p).client ≡ p.client → (cond t (f p) p).client ≡ p.client
only_client t f p h = only_named (λ (x : Publisher). x.client) t f p h

-- and of a receiver
pub only_receiver : (t : Bool) (f : Receiver → Receiver) (r : Receiver) → (f r).client ≡ r.client → (cond t (f r) r).client ≡ r.client
only_receiver t f r h = only_named (λ (x : Receiver). x.client) t f r h

-- ends of one kind, by their names
module _ {X : Type 0} (client : X → List ℕ) (c d : List ℕ) (f : X → X) (same : (x : X) → client (f x) ≡ client x) (xs : List X) where
  abbrev named : List X → Option X
  named ys = find (λ (x : X). bytes_eq (client x) c) ys

  abbrev turned : X → X
  turned x = cond (bytes_eq (client x) d) (f x) x

  -- who is found behind the change is who was found, changed
  pub found_turned : named (map turned xs) ≡ option_map turned (named xs)
  found_turned = find_changed (λ (x : X). bytes_eq (client x) c) turned (λ x. ap (λ (y : List ℕ). bytes_eq y c) (only_named client (bytes_eq (client x) d) f x (same x))) xs

  -- a change of another leaves it
  pub found_not : (is_some (named xs) ≡ true → d ≡ c → ⊥) → named (map turned xs) ≡ named xs
  found_not not_its = found_turned ∙ by (named xs) refl
    where
      other : (x : X) → client x ≡ c → (d ≡ c → ⊥) → turned x ≡ x
      other x is differ = elim (cases_Bool (bytes_eq (client x) d)) [
        | inl its ↦ absurd (differ (sym ((bytes_eq-Decides (client x) d).0 its) ∙ is))
        | inr no_ ↦ ap (λ (t : Bool). cond t (f x) x) no_
      ]

      by : (o : Option X) → named xs ≡ o → option_map turned o ≡ o
      by None e = refl
      by (Some x) e = ap Some (other x (named_by client c x xs e) (not_its (ap is_some e)))

  -- a change of its own is found
  pub found_its : d ≡ c → (x : X) → named xs ≡ Some x → named (map turned xs) ≡ Some (f x)
  found_its is x e =
      let its : bytes_eq (client x) d ≡ true = (bytes_eq-Decides (client x) d).1 (named_by client c x xs e ∙ sym is) in
      found_turned ∙ (ap (option_map turned) e ∙ ap (λ (t : Bool). Some (cond t (f x) x)) its)

-- the name isn't the publisher's
abbrev pub IsNotHim : List ℕ → List ℕ → World → Type 0
IsNotHim c d w = is_some (publisher_named c w) ≡ true → d ≡ c → ⊥

-- a name is the publisher's, or not
pub whose_name : (c d : List ℕ) (w : World) → ((p : Publisher) × (publisher_named c w ≡ Some p) × (d ≡ c)) ⊎ IsNotHim c d w
whose_name c d w = whose c d (publisher_named c w)

-- a change of another leaves the publisher
pub changed_not : (c d : List ℕ) (f : Publisher → Publisher) (w : World) → ((p : Publisher) → (f p).client ≡ p.client) → IsNotHim c d w
    → publisher_named c (with_publisher d f w) ≡ publisher_named c w
changed_not c d f w same not_him = found_not (λ (p : Publisher). p.client) c d f same w.publishers not_him

-- a change of the publisher's own is found
pub changed_his : (c : List ℕ) (f : Publisher → Publisher) (w : World) (p : Publisher) → ((q : Publisher) → (f q).client ≡ q.client) → publisher_named c w ≡ Some p
    → publisher_named c (with_publisher c f w) ≡ Some (f p)
changed_his c f w p same e = found_its (λ (p : Publisher). p.client) c c f same w.publishers refl p e

-- ---- a new one

-- a last item is found if none before it is
pub find_last : {X : Type 0} (test : X → Bool) (x : X) (xs : List X) → test x ≡ true → find test xs ≡ None → find test (xs ++ x ∷ []) ≡ Some x
find_last test x [] is none = rw is refl
find_last test x (y ∷ ys) is none = elim (cases_Bool (test y)) [
  | inl its ↦ let clash : Some y ≡ None = rw its at none in absurd cc
  | inr other ↦ rw other (find_last test x ys is (rw other at none))
]

-- and not if it does not pass
pub find_no_more : {X : Type 0} (test : X → Bool) (x : X) (xs : List X) → test x ≡ false → find test (xs ++ x ∷ []) ≡ find test xs
find_no_more test x [] is = rw is refl
find_no_more test x (y ∷ ys) is = elim (cases_Bool (test y)) [
  | inl its ↦ rw its refl
  | inr other ↦ rw other (find_no_more test x ys is)
]

-- what was found before it still is
pub find_first : {X : Type 0} (test : X → Bool) (x y : X) (xs : List X) → find test xs ≡ Some y → find test (xs ++ x ∷ []) ≡ Some y
find_first test x y [] e = absurd cc
find_first test x y (z ∷ zs) e = elim (cases_Bool (test z)) [
  | inl its ↦ let it : Some z ≡ Some y = rw its at e in rw its it
  | inr other ↦ rw other (find_first test x y zs (rw other at e))
]

-- ---- two tests

-- neither holds
pub either : (a b : Bool) → (a || b) ≡ false → (a ≡ false) × (b ≡ false)
either true b h = absurd cc
either false b h = (refl, h)

-- ---- whose a line's number is

-- no line has no number
pub no_line_is : (Out : ℕ → Type 0) (given : ℕ) (x : Option ℕ) → x ≡ None → IsApartFrom Out given x
no_line_is Out given x none = λ n is. let clash : None ≡ Some n = sym none ∙ is in absurd cc

-- an end without a line has none of its
pub unlined : {U : Type 0} (Out : ℕ → Type 0) (given : ℕ) (l : Line U) → l.number ≡ None → l.old_number ≡ None → HasApart Out given l
unlined Out given l e f = record { number = no_line_is Out given l.number e; old_number = no_line_is Out given l.old_number f }

-- a number stays apart if each that is so stays so, as more are given or it has more
pub still_apart : (Out Still : ℕ → Type 0) (given more : ℕ) (x y : Option ℕ) → ((n : ℕ) → Out n → n ≤ given → Still n × (n ≤ more)) → y ≡ x → IsApartFrom Out given x → IsApartFrom Still more y
still_apart Out Still given more x y each same h = λ n is. let both = h n (sym same ∙ is) in each n both.0 both.1

-- so do those of a line
pub line_still : {U : Type 0} (Out Still : ℕ → Type 0) (given more : ℕ) (l m : Line U) → ((n : ℕ) → Out n → n ≤ given → Still n × (n ≤ more)) → m.number ≡ l.number → m.old_number ≡ l.old_number
    → HasApart Out given l → HasApart Still more m
line_still Out Still given more l m each e f h = record {
  number = still_apart Out Still given more l.number m.number each e h.number;
  old_number = still_apart Out Still given more l.old_number m.old_number each f h.old_number;
}

-- more lines are given
pub given_later : (Out : ℕ → Type 0) (given more : ℕ) (x : Option ℕ) → given ≤ more → IsApartFrom Out given x → IsApartFrom Out more x
given_later Out given more x up h = still_apart Out Out given more x x (λ n out le. (out, omega (arith, le, up))) refl h

-- to whatever line has the same numbers
pub line_later : {U : Type 0} (Out : ℕ → Type 0) (given more : ℕ) (l m : Line U) → given ≤ more → m.number ≡ l.number → m.old_number ≡ l.old_number → HasApart Out given l → HasApart Out more m
line_later Out given more l m up e f h = line_still Out Out given more l m (λ n out le. (out, omega (arith, le, up))) e f h

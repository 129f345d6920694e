-- Copies that stand among others, in their order (ours).
use Rattle.std.proofs.Common.{◌≡◌, ◌≤◌, ◌+◌, Bool, true, false, cond, not, ◌||◌, List, [], ◌∷◌, ◌++◌, filter, refl, sym, ap, subst, ◌∙◌, arith, inl, inr}
use Rattle.std.specs.Prelude.{◌≢◌}
use Rattle.std.specs.List.{AllByRecursion}
use Rattle.std.proofs.lemmas.Bool.{cases_Bool}
use Rattle.mqtt_base.specs.declared.session.CopyId.{CopyId}
use Rattle.mqtt_world_model.specs.model.Laws.{count_of, is_copy, stand_among}
use Rattle.mqtt_records.specs.lists.Distinct.{AllDiffer}
use Rattle.mqtt_world_laws.proofs.acceptance_lemmas.copies.Counting.{count_append}
use Rattle.mqtt_world_laws.proofs.receiver_lemmas.queue.Handed.{copy_is, copy_itself}
use Rattle.mqtt_world_laws.specs.delivery.HandedOver.{is_among}
use Rattle.mqtt_world_laws.proofs.delivery_lemmas.order.QueueOrder.{behind_one, none_first, other_copy}

-- ---- some among more

-- a list stands in itself
pub stand_self : (xs : List CopyId) → stand_among xs xs ≡ true
stand_self [] = refl
stand_self (x ∷ xs) = rw (copy_itself x) (stand_self xs)

-- and in one with more before it
pub stand_behind : (xs ys zs : List CopyId) → stand_among xs zs ≡ true → stand_among xs (ys ++ zs) ≡ true
stand_behind xs [] zs h = h
stand_behind xs (y ∷ ys) zs h = behind_one xs y (ys ++ zs) (stand_behind xs ys zs h)

-- two lists stand in two
pub stand_both : (xs vs ys zs : List CopyId) → stand_among xs ys ≡ true → stand_among vs zs ≡ true → stand_among (xs ++ vs) (ys ++ zs) ≡ true
stand_both [] vs ys zs h k = stand_behind vs ys zs k
stand_both (x ∷ xs) vs [] zs h k = absurd cc
stand_both (x ∷ xs) vs (y ∷ ys) zs h k = elim (cases_Bool (is_copy x y)) [
  | inl its ↦ rw its (stand_both xs vs ys zs (rw its at h) k)
  | inr other ↦ rw other (stand_both (x ∷ xs) vs ys zs (rw other at h) k)
]

-- and in one with more behind it
pub stand_more : (xs ys zs : List CopyId) → stand_among xs ys ≡ true → stand_among xs (ys ++ zs) ≡ true
stand_more [] ys zs h = none_first (ys ++ zs)
stand_more (x ∷ xs) [] zs h = absurd cc
stand_more (x ∷ xs) (y ∷ ys) zs h = elim (cases_Bool (is_copy x y)) [
  | inl its ↦ rw its (stand_more xs ys zs (rw its at h))
  | inr other ↦ rw other (stand_more (x ∷ xs) ys zs (rw other at h))
]

-- what stands in a list stands in what that stands in
pub stand_trans : (xs ys zs : List CopyId) → stand_among xs ys ≡ true → stand_among ys zs ≡ true → stand_among xs zs ≡ true
stand_trans [] ys zs h k = none_first zs
stand_trans (x ∷ xs) [] zs h k = absurd cc
stand_trans (x ∷ xs) (y ∷ ys) [] h k = absurd cc
stand_trans (x ∷ xs) (y ∷ ys) (z ∷ zs) h k = elim (cases_Bool (is_copy y z)) [
  | inl its ↦ elim (cases_Bool (is_copy x y)) [
    | inl here ↦
        let same : is_copy x z ≡ true = ap (λ (c : CopyId). is_copy c z) (copy_is x y here) ∙ its in
        rw same (stand_trans xs ys zs (rw here at h) (rw its at k))
    | inr further ↦ behind_one (x ∷ xs) z zs (stand_trans (x ∷ xs) ys zs (rw further at h) (rw its at k))
  ]
  | inr other ↦ behind_one (x ∷ xs) z zs (stand_trans (x ∷ xs) (y ∷ ys) zs h (rw other at k))
]

-- ---- picked

-- what is picked from a list stands in it
pub picked_stand : (p : CopyId → Bool) (xs : List CopyId) → stand_among (filter p xs) xs ≡ true
picked_stand p [] = refl
picked_stand p (x ∷ xs) = elim (cases_Bool (p x)) [
  | inl in_ ↦ rw (in_, copy_itself x) (picked_stand p xs)
  | inr out ↦ rw out (behind_one (filter p xs) x xs (picked_stand p xs))
]

none_of : (x : CopyId) (y : CopyId) (ys : List CopyId) → is_among (y ∷ ys) x ≡ false → (is_copy x y ≡ false) × (is_among ys x ≡ false)
none_of x y ys h = by (is_copy x y) h
  where
    by : (t : Bool) → (t || is_among ys x) ≡ false → (t ≡ false) × (is_among ys x ≡ false)
    by true e = absurd cc
    by false e = (refl, e)

none_of_all : (y : CopyId) (ys xs : List CopyId) → AllByRecursion (λ (x : CopyId). is_among (y ∷ ys) x ≡ false) xs → AllByRecursion (λ (x : CopyId). is_among ys x ≡ false) xs
none_of_all y ys [] h = tt
none_of_all y ys (x ∷ xs) h = ((none_of x y ys h.0).1, none_of_all y ys xs h.1)

-- none of them is one of the first
pub stand_past : (xs ys zs : List CopyId) → AllByRecursion (λ (x : CopyId). is_among ys x ≡ false) xs → stand_among xs (ys ++ zs) ≡ true → stand_among xs zs ≡ true
stand_past xs [] zs h k = k
stand_past [] (y ∷ ys) zs h k = none_first zs
stand_past (x ∷ xs) (y ∷ ys) zs h k = let other = (none_of x y ys h.0).0 in stand_past (x ∷ xs) ys zs (none_of_all y ys (x ∷ xs) h) (rw other at k)

-- ---- each is one of the others

among_more : (x y : CopyId) (ys : List CopyId) → is_among ys x ≡ true → is_among (y ∷ ys) x ≡ true
among_more x y ys h = by (is_copy x y)
  where
    by : (t : Bool) → (t || is_among ys x) ≡ true
    by true = refl
    by false = h

among_all : (y : CopyId) (ys xs : List CopyId) → AllByRecursion (λ (x : CopyId). is_among ys x ≡ true) xs → AllByRecursion (λ (x : CopyId). is_among (y ∷ ys) x ≡ true) xs
among_all y ys [] h = tt
among_all y ys (x ∷ xs) h = (among_more x y ys h.0, among_all y ys xs h.1)

-- each that stands in a list is among it
pub stand_each : (xs ys : List CopyId) → stand_among xs ys ≡ true → AllByRecursion (λ (x : CopyId). is_among ys x ≡ true) xs
stand_each [] ys h = tt
stand_each (x ∷ xs) [] h = absurd cc
stand_each (x ∷ xs) (y ∷ ys) h = elim (cases_Bool (is_copy x y)) [
  | inl its ↦ (ap (λ (t : Bool). t || is_among ys x) its, among_all y ys xs (stand_each xs ys (rw its at h)))
  | inr other ↦ among_all y ys (x ∷ xs) (stand_each (x ∷ xs) ys (rw other at h))
]

-- being among two lists is being among one of them
pub among_append : (x : CopyId) (ys zs : List CopyId) → is_among (ys ++ zs) x ≡ (is_among ys x || is_among zs x)
among_append x [] zs = refl
among_append x (y ∷ ys) zs = by (is_copy x y) (among_append x ys zs)
  where
    by : (t : Bool) → is_among (ys ++ zs) x ≡ (is_among ys x || is_among zs x) → (t || is_among (ys ++ zs) x) ≡ ((t || is_among ys x) || is_among zs x)
    by true rest = refl
    by false rest = rest

-- those that are none of these, of which each is one
pub none_left : (come xs : List CopyId) → AllByRecursion (λ (x : CopyId). is_among come x ≡ true) xs → filter (λ (c : CopyId). not (is_among come c)) xs ≡ []
none_left come [] h = refl
none_left come (x ∷ xs) h = let its = h.0 in rw its (none_left come xs h.1)

-- what is picked from two lists is picked from each
pub picked_append : (p : CopyId → Bool) (xs ys : List CopyId) → filter p (xs ++ ys) ≡ filter p xs ++ filter p ys
picked_append p [] ys = refl
picked_append p (x ∷ xs) ys = elim (cases_Bool (p x)) [
  | inl in_ ↦ rw in_ (ap (λ (cs : List CopyId). x ∷ cs) (picked_append p xs ys))
  | inr out ↦ rw out (picked_append p xs ys)
]

moved : (come new : List CopyId) (x y : CopyId) → is_among (come ++ new) y ≡ true → is_among (come ++ x ∷ new) y ≡ true
moved [] new x y h = among_more y x new h
moved (c ∷ come) new x y h = by (is_copy y c) (moved come new x y) h
  where
    by : (t : Bool) → (is_among (come ++ new) y ≡ true → is_among (come ++ x ∷ new) y ≡ true) → (t || is_among (come ++ new) y) ≡ true → (t || is_among (come ++ x ∷ new) y) ≡ true
    by true rest e = refl
    by false rest e = rest e

all_moved : (come new : List CopyId) (x : CopyId) (ys : List CopyId) → AllByRecursion (λ (y : CopyId). is_among (come ++ new) y ≡ true) ys → AllByRecursion (λ (y : CopyId). is_among (come ++ x ∷ new) y ≡ true) ys
all_moved come new x [] h = tt
all_moved come new x (y ∷ ys) h = (moved come new x y h.0, all_moved come new x ys h.1)

-- those that are none of these
abbrev pub others_of : List CopyId → List CopyId → List CopyId
others_of come xs = filter (λ (c : CopyId). not (is_among come c)) xs

-- with them, each is one
pub all_come : (come xs : List CopyId) → AllByRecursion (λ (x : CopyId). is_among (come ++ others_of come xs) x ≡ true) xs
all_come come [] = tt
all_come come (x ∷ xs) = elim (cases_Bool (is_among come x)) [
  | inl its ↦
      let same : others_of come (x ∷ xs) ≡ others_of come xs = rw its refl in
      come_so (sym same) (among_append x come (others_of come xs) ∙ ap (λ (t : Bool). t || is_among (others_of come xs) x) its, all_come come xs)
  | inr other ↦
      let same : others_of come (x ∷ xs) ≡ x ∷ others_of come xs = rw other refl in
      come_so (sym same) (
        among_append x come (x ∷ others_of come xs) ∙ (ap (λ (t : Bool). t || is_among (x ∷ others_of come xs) x) other ∙ ap (λ (t : Bool). t || is_among (others_of come xs) x) (copy_itself x)),
        all_moved come (others_of come xs) x xs (all_come come xs),
      )
]
  where
    come_so : {new : List CopyId} → new ≡ others_of come (x ∷ xs) → AllByRecursion (λ (y : CopyId). is_among (come ++ new) y ≡ true) (x ∷ xs) → AllByRecursion (λ (y : CopyId). is_among (come ++ others_of come (x ∷ xs)) y ≡ true) (x ∷ xs)
    come_so is h = subst (λ (ids : List CopyId). AllByRecursion (λ (y : CopyId). is_among (come ++ ids) y ≡ true) (x ∷ xs)) is h

-- ---- if no two are the same

not_one : (y : CopyId) (ids : List CopyId) → AllByRecursion (λ (x : CopyId). y ≢ x) ids → is_among ids y ≡ false
not_one y [] h = refl
not_one y (x ∷ ids) h = rw (other_copy y x h.0) (not_one y ids h.1)

-- none of these is one that is none of theirs
none_there : (y : CopyId) (ids xs : List CopyId) → AllByRecursion (λ (x : CopyId). y ≢ x) ids → AllByRecursion (λ (x : CopyId). is_among ids x ≡ true) xs → is_among xs y ≡ false
none_there y ids [] differ h = refl
none_there y ids (x ∷ xs) differ h = elim (cases_Bool (is_copy y x)) [
  | inl same ↦
      let yes_ : is_among ids y ≡ true = ap (is_among ids) (copy_is y x same) ∙ h.0 in
      let clash : true ≡ false = sym yes_ ∙ not_one y ids differ in
      absurd cc
  | inr other ↦ rw other (none_there y ids xs differ h.1)
]

-- the first counts for nothing among those that are not it
without_first : (x : CopyId) (xs ids : List CopyId) → AllByRecursion (λ (z : CopyId). x ≢ z) ids → filter (is_among (x ∷ xs)) ids ≡ filter (is_among xs) ids
without_first x xs [] differ = refl
without_first x xs (z ∷ ids) differ =
    let other : is_copy z x ≡ false = other_copy z x (λ e. differ.0 (sym e)) in
    elim (cases_Bool (is_among xs z)) [
      | inl in_ ↦ rw (other, in_) (ap (λ (cs : List CopyId). z ∷ cs) (without_first x xs ids differ.1))
      | inr out ↦ rw (other, out) (without_first x xs ids differ.1)
    ]

none_picked : (ids : List CopyId) → filter (is_among []) ids ≡ []
none_picked [] = refl
none_picked (z ∷ ids) = none_picked ids

-- those that stand among them are what is picked by them
pub picks_same : (xs ids : List CopyId) → AllDiffer ids → stand_among xs ids ≡ true → filter (is_among xs) ids ≡ xs
picks_same [] ids differ h = none_picked ids
picks_same (x ∷ xs) [] differ h = absurd cc
picks_same (x ∷ xs) (y ∷ ids) differ h = elim (cases_Bool (is_copy x y)) [
  | inl its ↦
      let same : x ≡ y = copy_is x y its in
      let in_ : is_copy y x ≡ true = ap (is_copy y) same ∙ copy_itself y in
      let apart : AllByRecursion (λ (z : CopyId). x ≢ z) ids = subst (λ (c : CopyId). AllByRecursion (λ (z : CopyId). c ≢ z) ids) (sym same) differ.0 in
      let rest = without_first x xs ids apart ∙ picks_same xs ids differ.1 (rw its at h) in
      rw in_ (ap (λ (cs : List CopyId). y ∷ cs) rest ∙ ap (λ (c : CopyId). c ∷ xs) (sym same))
  | inr other ↦
      let behind : stand_among (x ∷ xs) ids ≡ true = rw other at h in
      let out : is_among (x ∷ xs) y ≡ false = none_there y ids (x ∷ xs) differ.0 (stand_each (x ∷ xs) ids behind) in
      let rest = picks_same (x ∷ xs) ids differ.1 behind in
      subst (λ (t : Bool). cond t (y ∷ filter (is_among (x ∷ xs)) ids) (filter (is_among (x ∷ xs)) ids) ≡ x ∷ xs) (sym out) rest
]

-- ---- so often

-- what is among a list counts once at least
pub counts_once : (x : CopyId) (ys : List CopyId) → is_among ys x ≡ true → 1 ≤ count_of x ys
counts_once x [] h = absurd cc
counts_once x (y ∷ ys) h =
    let all : count_of x (y ∷ ys) ≡ count_of x (y ∷ []) + count_of x ys = count_append x (y ∷ []) ys in
    elim (cases_Bool (is_copy x y)) [
      | inl its ↦ let one : count_of x (y ∷ []) ≡ 1 = rw its refl in omega (arith, all, one)
      | inr other ↦ let rest = counts_once x ys (rw other at h) in omega (arith, all, rest)
    ]

-- ---- copies that have come are one of these

-- what holds of each holds of one among them
pub all_one : (P : CopyId → Type 0) (x : CopyId) (ids : List CopyId) → AllByRecursion P ids → is_among ids x ≡ true → P x
all_one P x [] all h = absurd cc
all_one P x (y ∷ ids) all h = elim (cases_Bool (is_copy x y)) [
  | inl its ↦ subst P (sym (copy_is x y its)) all.0
  | inr other ↦ all_one P x ids all.1 (rw other at h)
]

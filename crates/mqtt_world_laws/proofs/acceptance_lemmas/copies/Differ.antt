-- Lists in which no two are equal: parts of them, and what is put in.
use Rattle.std.proofs.Common.{ℕ, Bool, ◌||◌, List, [], ◌∷◌, ◌++◌, length, filter, map, nat_eq, nat_lt, sym, inl, inr}
use Rattle.std.specs.Prelude.{◌≢◌}
use Rattle.std.specs.List.{AllByRecursion}
use Rattle.std.proofs.lemmas.Bool.{cases_Bool}
use Rattle.mqtt_records.specs.lists.Distinct.{AllDiffer}
use Rattle.mqtt_records.specs.lists.Order.{has_row, insert_row, put_row}
use Rattle.mqtt_rules.proofs.step_lemmas.numbers.Copies.{each_append, each_map}

-- no element of one is in the other
abbrev pub AreApart : {X : Type 0} → List X → List X → Type 0
AreApart xs ys = AllByRecursion (λ x. AllByRecursion (λ y. x ≢ y) ys) xs

-- two lists whose items differ, and are apart, differ together
pub differ_join : {X : Type 0} (xs ys : List X) → AllDiffer xs → AllDiffer ys → AreApart xs ys → AllDiffer (xs ++ ys)
differ_join [] ys p q apart = q
differ_join (x ∷ xs) ys p q apart = (each_append (λ y. x ≢ y) xs ys p.0 apart.0, differ_join xs ys p.1 q apart.1)

-- what holds of what is made of each holds of those that are kept
pub each_mapped : {X Y : Type 0} (P : Y → Type 0) (f : X → Y) (keep : X → Bool) (xs : List X) → AllByRecursion P (map f xs) → AllByRecursion P (map f (filter keep xs))
each_mapped P f keep [] h = tt
each_mapped P f keep (x ∷ xs) h = elim (cases_Bool (keep x)) [
  | inl stays ↦ rw stays (h.0, each_mapped P f keep xs h.1)
  | inr goes ↦ rw goes (each_mapped P f keep xs h.1)
]

-- those that are kept still differ
pub differ_filtered : {X Y : Type 0} (f : X → Y) (keep : X → Bool) (xs : List X) → AllDiffer (map f xs) → AllDiffer (map f (filter keep xs))
differ_filtered f keep [] h = tt
differ_filtered f keep (x ∷ xs) h = elim (cases_Bool (keep x)) [
  | inl stays ↦ rw stays (each_mapped (λ y. f x ≢ y) f keep xs h.0, differ_filtered f keep xs h.1)
  | inr goes ↦ rw goes (differ_filtered f keep xs h.1)
]

module _ {X Y : Type 0} (key : X → ℕ) (f : X → Y) where
  insert_differ : (row : X) (xs : List X) → AllByRecursion (λ x. f row ≢ f x) xs → AllDiffer (map f xs) → AllDiffer (map f (insert_row key row xs))
  insert_differ row [] new h = (tt, tt)
  insert_differ row (x ∷ xs) new h = elim (cases_Bool (nat_lt (key row) (key x))) [
    | inl before ↦ rw before (each_map (λ y. f row ≢ y) f (x ∷ xs) new, h)
    | inr behind ↦ elim (cases_Bool (nat_eq (key row) (key x))) [
      | inl same ↦ rw (behind, same) (each_map (λ y. f row ≢ y) f xs new.1, h.1)
      | inr other ↦ rw (behind, other) (beside x xs (λ e. new.0 (sym e)) h.0, insert_differ row xs new.1 h.1)
    ]
  ]
    where
      beside : (x : X) (ys : List X) → f x ≢ f row → AllByRecursion (λ y. f x ≢ y) (map f ys) → AllByRecursion (λ y. f x ≢ y) (map f (insert_row key row ys))
      beside x [] apart h = (apart, tt)
      beside x (y ∷ ys) apart h = elim (cases_Bool (nat_lt (key row) (key y))) [
        | inl before ↦ rw before (apart, h)
        | inr behind ↦ elim (cases_Bool (nat_eq (key row) (key y))) [
          | inl same ↦ rw (behind, same) (apart, h.1)
          | inr other ↦ rw (behind, other) (h.0, beside x ys apart h.1)
        ]
      ]

  -- a row put among rows that differ, and that differs from them, leaves all different
  pub put_differ : (limit : ℕ) (row : X) (xs : List X) → AllByRecursion (λ x. f row ≢ f x) xs → AllDiffer (map f xs) → AllDiffer (map f (put_row key limit row xs))
  put_differ limit row xs new h = elim (cases_Bool (has_row key (key row) xs || nat_lt (length xs) limit)) [
    | inl room ↦ rw room (insert_differ row xs new h)
    | inr full ↦ rw full h
  ]

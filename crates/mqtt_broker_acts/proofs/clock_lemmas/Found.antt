-- What a search finds in rows in the order of their keys is what stands at its key.
use Rattle.std.proofs.Common.{◌≡◌, ℕ, Bool, List, [], ◌∷◌, nat_eq, subst, inl, inr}
use Rattle.std.specs.Prelude.{Option, Some, None, find}
use Rattle.std.proofs.lemmas.Bool.{cases_Bool, eqb-true}
use Rattle.mqtt_records.specs.lists.Order.{IsAbove, IsAscending, row_at}
use Rattle.mqtt_records.proofs.lists_lemmas.LookUps.{row_at-here}
use Rattle.mqtt_records.proofs.lists_lemmas.OrderLemmas.{above_none}

module _ {X : Type 0} (key : X → ℕ) where
  -- what a search finds is what its key finds
  pub found_at : (test : X → Bool) (x : X) (xs : List X) → IsAscending key xs → find test xs ≡ Some x → row_at key (key x) xs ≡ Some x
  found_at test x [] up e = absurd cc
  found_at test x (y ∷ ys) up e = elim (cases_Bool (test y)) [
    | inl here ↦
        let first : Some y ≡ Some x = rw here at e in
        let is : y ≡ x = cc in
        subst (λ (z : X). row_at key (key z) (y ∷ ys) ≡ Some z) is (row_at-here key y ys)
    | inr other ↦
        let later : row_at key (key x) ys ≡ Some x = found_at test x ys up.1 (rw other at e) in
        elim (cases_Bool (nat_eq (key y) (key x))) [
          | inl same ↦
              let none : row_at key (key x) ys ≡ None = above_none key (key x) ys (subst (λ (k : ℕ). IsAbove key k ys) (eqb-true (key y) (key x) same) up.0) in
              absurd (sooner none later)
          | inr apart ↦ rw apart later
        ]
  ]
    where
      sooner : {o : Option X} → o ≡ None → o ≡ Some x → ⊥
      sooner p q = cc

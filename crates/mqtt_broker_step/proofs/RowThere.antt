-- A row that stands at a place is the one with its key.
use Rattle.std.proofs.Common.{◌≡◌, ℕ, ◌<◌, zero, suc, List, [], ◌∷◌, ap, ◌∙◌, arith}
use Rattle.std.specs.Prelude.{Some, slice_get}
use Rattle.std.proofs.lemmas.Bool.{eq-eqb}
use Rattle.mqtt_records.specs.lists.Order.{IsAbove, IsAscending, row_at}
use Rattle.mqtt_records.proofs.lists_lemmas.OrderLemmas.{apart}

module _ {X : Type 0} (key : X → ℕ) where
  above_there : (n i : ℕ) (xs : List X) (x : X) → IsAbove key n xs → slice_get xs i ≡ Some x → n < key x
  above_there n i [] x above found = absurd cc
  above_there n zero (y ∷ ys) x above found =
      let same : y ≡ x = cc in
      let number = ap key same in
      let less = above.0 in
      omega (arith, number, less)
  above_there n (suc i) (y ∷ ys) x above found = above_there n i ys x above.1 found

  -- in ascending rows the one that stands at a place is found by its key
  pub row_there : (k i : ℕ) (xs : List X) (x : X) → IsAscending key xs → slice_get xs i ≡ Some x → key x ≡ k → row_at key k xs ≡ Some x
  row_there k i [] x up found is = absurd cc
  row_there k zero (y ∷ ys) x up found is =
      let same : y ≡ x = cc in
      rw (eq-eqb (key y) k (ap key same ∙ is)) (ap (λ (z : X). Some z) same)
  row_there k (suc i) (y ∷ ys) x up found is =
      let less = above_there (key y) i ys x up.0 found in
      rw (apart (key y) k (λ e. omega (arith, e, less, is))) (row_there k i ys x up.1 found is)

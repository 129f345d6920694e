-- What may follow a list in the order of its keys.
use Rattle.std.proofs.Common.{◌≡◌, ℕ, ◌+◌, ◌<◌, ◌≤◌, List, [], ◌∷◌, ◌++◌, subst, arith}
use Rattle.std.specs.Prelude.{Some}
use Rattle.mqtt_records.specs.lists.Order.{IsBelow, IsAscending, last_row}
use Rattle.mqtt_store_rows.proofs.values_lemmas.ListLemmas.{ascending_push}

module _ {X : Type 0} (key : X → ℕ) where
  below_more : (m n : ℕ) (xs : List X) → IsBelow key m xs → m ≤ n → IsBelow key n xs
  below_more m n [] low le = tt
  below_more m n (x ∷ xs) low le = let h = low.0 in (omega (arith, h, le), below_more m n xs low.1 le)

  -- in order, all keys are at most that of the last
  below_last : (xs : List X) (l : X) → IsAscending key xs → last_row key xs ≡ Some l → IsBelow key (key l + 1) xs
  below_last [] l up last = tt
  below_last (x ∷ []) l up last = let is : x ≡ l = cc in (subst (λ (y : X). key x < key y + 1) is (omega arith), tt)
  below_last (x ∷ y ∷ ys) l up last =
      let rest = below_last (y ∷ ys) l up.1 last in
      let first = up.0.0 in
      let second = rest.0 in
      (omega (arith, first, second), rest)

  -- what is put behind others, in order, is above the last of them
  pub above_last : (xs : List X) (l x : X) → last_row key xs ≡ Some l → IsAscending key (xs ++ x ∷ []) → key l < key x
  above_last [] l x last up = absurd cc
  above_last (y ∷ []) l x last up = let is : y ≡ l = cc in subst (λ (z : X). key z < key x) is up.0.0
  above_last (y ∷ z ∷ zs) l x last up = above_last (z ∷ zs) l x last up.1

  -- what is above the last may follow
  pub follows_last : (xs : List X) (l x : X) → IsAscending key xs → last_row key xs ≡ Some l → key l < key x → IsAscending key (xs ++ x ∷ [])
  follows_last xs l x up last less = ascending_push key xs x up (below_more (key l + 1) (key x) xs (below_last xs l up last) (omega (arith, less)))

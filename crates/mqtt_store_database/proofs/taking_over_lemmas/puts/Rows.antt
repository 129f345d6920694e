-- A row in the middle of a list that rises by its keys.
use Rattle.std.proofs.Common.{◌≡◌, ℕ, ◌<◌, Bool, cond, List, [], ◌∷◌, ◌++◌, refl, ap, ◌∙◌, arith, inl, inr}
use Rattle.std.specs.Prelude.{Some}
use Rattle.std.specs.List.{AllByRecursion}
use Rattle.std.proofs.lemmas.Cmp.{nat_eq_equiv}
use Rattle.mqtt_records.specs.state.Members.{Has}
use Rattle.mqtt_records.specs.lists.Order.{IsAbove, IsAscending, IsBelow, row_at, change_row}
use Rattle.mqtt_records.proofs.lists_lemmas.OrderLemmas.{apart}
use Rattle.mqtt_records.proofs.lists_lemmas.LookUps.{row_at-here}

module _ {X : Type 0} where
  -- the list has it
  pub has_middle : (pre : List X) (x : X) (rest : List X) → Has (pre ++ x ∷ rest) x
  has_middle [] x rest = inl refl
  has_middle (p ∷ pre) x rest = inr (has_middle pre x rest)

  -- what holds of all holds of it
  pub of_middle : (P : X → Type 0) (pre : List X) (x : X) (rest : List X) → AllByRecursion P (pre ++ x ∷ rest) → P x
  of_middle P [] x rest all = all.0
  of_middle P (p ∷ pre) x rest all = of_middle P pre x rest all.1

  -- what the front of a list has the list has
  pub has_front : (pre rest : List X) (x : X) → Has pre x → Has (pre ++ rest) x
  has_front [] rest x h = absurd h
  has_front (p ∷ pre) rest x (inl here) = inl here
  has_front (p ∷ pre) rest x (inr later) = inr (has_front pre rest x later)

module _ {X : Type 0} (key : X → ℕ) where
  above_middle : (n : ℕ) (pre : List X) (x : X) (rest : List X) → IsAbove key n (pre ++ x ∷ rest) → n < key x
  above_middle n [] x rest up = up.0
  above_middle n (p ∷ pre) x rest up = above_middle n pre x rest up.1

  -- the keys before it are lower
  pub below_middle : (pre : List X) (x : X) (rest : List X) → IsAscending key (pre ++ x ∷ rest) → IsBelow key (key x) pre
  below_middle [] x rest up = tt
  below_middle (p ∷ pre) x rest up = (above_middle (key p) pre x rest up.0, below_middle pre x rest up.1)

  -- it is found by its key
  pub found_middle : (pre : List X) (x : X) (rest : List X) → IsBelow key (key x) pre → row_at key (key x) (pre ++ x ∷ rest) ≡ Some x
  found_middle [] x rest low = row_at-here key x rest
  found_middle (p ∷ pre) x rest low =
      let less = low.0 in
      ap (λ (b : Bool). cond b (Some p) (row_at key (key x) (pre ++ x ∷ rest))) (apart (key p) (key x) (λ same. omega (arith, less, same))) ∙ found_middle pre x rest low.1

  -- it alone is changed by its key
  pub changed_middle : (f : X → X) (pre : List X) (x : X) (rest : List X) → IsBelow key (key x) pre → change_row key (key x) f (pre ++ x ∷ rest) ≡ pre ++ f x ∷ rest
  changed_middle f [] x rest low = ap (λ (b : Bool). cond b (f x ∷ rest) (x ∷ change_row key (key x) f rest)) (nat_eq_equiv.refl (key x))
  changed_middle f (p ∷ pre) x rest low =
      let less = low.0 in
      ap (λ (b : Bool). cond b (f p ∷ (pre ++ x ∷ rest)) (p ∷ change_row key (key x) f (pre ++ x ∷ rest))) (apart (key p) (key x) (λ same. omega (arith, less, same)))
      ∙ ap (λ (l : List X). p ∷ l) (changed_middle f pre x rest low.1)

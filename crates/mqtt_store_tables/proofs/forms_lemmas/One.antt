-- A list of one item.
use Rattle.std.proofs.Common.{◌≡◌, List, [], ◌∷◌, length, get_or, ap, sym, arith}

-- a list of one item is that item alone
pub one_item : {X : Type 0} (xs : List X) (x : X) → length xs ≡ 1 → x ≡ get_or xs 0 x → xs ≡ x ∷ []
one_item [] x one is = absurd (omega (arith, one))
one_item (y ∷ []) x one is = ap (λ z. z ∷ []) (sym is)
one_item (y ∷ z ∷ ys) x one is = absurd (omega (arith, one))

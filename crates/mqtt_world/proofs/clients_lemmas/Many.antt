-- Many ends are changed one by one.
use Rattle.std.proofs.Common.{◌≡◌, ap, sym, ◌∙◌, refl, ℕ, zero, suc, ◌+◌, ◌<◌, List, [], ◌∷◌, ◌++◌, map, take, drop, length, get_or, set, subst, arith}
use Rattle.std.specs.List.{AllByRecursion}
use Rattle.std.proofs.lemmas.List.{get_or_default}
use Rattle.std.proofs.lemmas.List.Edits.{map_over_more}

-- one more of them is
pub one_more : {X : Type 0} (f : X → X) (xs zs ys : List X) (i : ℕ) (d y : X) → zs ≡ xs → length ys ≡ length zs
    → i < length zs → ys ≡ map f (take i xs) ++ drop i xs → y ≡ f (get_or ys i d)
    → set ys i y ≡ map f (take (i + 1) xs) ++ drop (i + 1) xs
one_more f xs zs ys i d y same long within so_far made =
    ap (set ys i) made
    ∙ map_over_more f xs ys i (get_or ys i d) (subst (λ (l : List _). i < length l) same within) so_far
    (get_or_default ys i d (get_or ys i d) (omega arith))

-- what holds of each holds of the one at a place
at_place : {X : Type 0} (P : X → Type 0) (xs : List X) (i : ℕ) (d : X) → i < length xs → AllByRecursion P xs → P (get_or xs i d)
at_place P [] i d within h = absurd (omega arith)
at_place P (x ∷ xs) zero d within h = h.0
at_place P (x ∷ xs) (suc i) d within h = at_place P xs i d (omega (arith, within)) h.1

-- the next of them is as it was
next_is : {X : Type 0} (f : X → X) (xs : List X) (i : ℕ) (d : X) → i < length xs → get_or (map f (take i xs) ++ drop i xs) i d ≡ get_or xs i d
next_is f [] i d within = absurd (omega arith)
next_is f (x ∷ xs) zero d within = refl
next_is f (x ∷ xs) (suc i) d within = next_is f xs i d (omega (arith, within))

-- the same, if one is changed so of which something holds that holds of each
pub one_more_of : {X : Type 0} (P : X → Type 0) (f : X → X) (xs zs ys : List X) (i : ℕ) (d y : X) → zs ≡ xs → length ys ≡ length zs
    → i < length zs → ys ≡ map f (take i xs) ++ drop i xs → AllByRecursion P xs → (P (get_or ys i d) → y ≡ f (get_or ys i d))
    → set ys i y ≡ map f (take (i + 1) xs) ++ drop (i + 1) xs
one_more_of P f xs zs ys i d y same long within so_far each made =
    let inside : i < length xs = subst (λ (l : List _). i < length l) same within in
    one_more f xs zs ys i d y same long within so_far
    (made (subst P (sym (ap (λ (l : List _). get_or l i d) so_far ∙ next_is f xs i d inside)) (at_place P xs i d inside each)))

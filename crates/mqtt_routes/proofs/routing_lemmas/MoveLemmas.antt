-- Lemmas on places that move one after another.
use Rattle.std.proofs.Common.{◌≡◌, ℕ, zero, suc, ◌+◌, ◌<◌, List, [], ◌∷◌, ◌++◌, map, take, drop, set, get_or, length, refl, ap, ◌∙◌, arith}
use Rattle.mqtt_routes.specs.declared.routing.spot.Spot.{Spot}

module _ (f : Spot → Spot) where
  -- once the place at i has moved too, all up to it have
  pub moved_next : (old : List Spot) (i : ℕ) (d : Spot) → i < length old → set (map f (take i old) ++ drop i old) i (f (get_or (map f (take i old) ++ drop i old) i d)) ≡ map f (take (i + 1) old) ++ drop (i + 1) old
  moved_next [] i d l = absurd (omega (arith, l))
  moved_next (x ∷ xs) zero d l = refl
  moved_next (x ∷ xs) (suc i) d l =
      let more : suc (i + 1) ≡ suc i + 1 = omega arith in
      ap (λ (ys : List Spot). f x ∷ ys) (moved_next xs i d (omega (arith, l)))
      ∙ ap (λ (n : ℕ). map f (take n (x ∷ xs)) ++ drop n (x ∷ xs)) more

-- A step that did not fail.
use Rattle.std.proofs.Common.{◌≡◌, Bool, true, false, ◌&&◌, Option, Some, None, Result, Ok, Err, refl, ap}
use Rattle.mqtt_base.proofs.Steps.{ok_is}
use Rattle.mqtt_packet.specs.parts.Reading.{malformed, known}

-- what went well went well before its fault was named
pub malformed_ok : {A E : Type 0} (r : Result A E) (x : A) → malformed r ≡ Ok x → r ≡ Ok x
malformed_ok {A} {E} (Ok y) x e = ap (λ (z : A). Ok z) (ok_is y x e)
malformed_ok {A} {E} (Err d) x e = absurd cc

-- what is known was found
pub known_ok : {A : Type 0} (o : Option A) (x : A) → known o ≡ Ok x → o ≡ Some x
known_ok {A} None x e = absurd cc
known_ok {A} (Some y) x e = ap (λ (z : A). Some z) (ok_is y x e)

-- both parts of an "and" that holds hold
pub both_true : (a b : Bool) → (a && b) ≡ true → (a ≡ true) × (b ≡ true)
both_true true b e = (refl, e)
both_true false b e = absurd cc

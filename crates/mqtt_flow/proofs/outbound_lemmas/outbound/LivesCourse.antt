-- How a copy may go on.
use Rattle.std.specs.Prelude.{Bool, true, false, List, [], ◌∷◌, ◌≡◌, ⊤, Option, Some, None, slice_get, option_map}
use Rattle.mqtt_base.specs.declared.Ending.{Ending}
use Rattle.mqtt_base.specs.declared.Ending.TheVariants.{Taken, Refused, Expired, TooLarge, SessionEnded, Dropped}
use Rattle.mqtt_flow.specs.outbound.Receiver.{Handed}
use Rattle.mqtt_flow.proofs.outbound_lemmas.outbound.Lives.{Life, waiting, in_flight, sent, released, ended, body_of}

-- the ends of a copy that was sent
abbrev pub Of_sent : Ending → Type 0
Of_sent Taken = ⊤
Of_sent Refused = ⊤
Of_sent Expired = ⊥
Of_sent TooLarge = ⊤
Of_sent SessionEnded = ⊤
Of_sent Dropped = ⊥

-- and of one that was released, by whether its PUBREC was taken
abbrev pub Of_taken : Ending → Type 0
Of_taken Taken = ⊤
Of_taken Refused = ⊥
Of_taken Expired = ⊥
Of_taken TooLarge = ⊥
Of_taken SessionEnded = ⊤
Of_taken Dropped = ⊥

abbrev pub Of_large : Ending → Type 0
Of_large Taken = ⊥
Of_large Refused = ⊥
Of_large Expired = ⊥
Of_large TooLarge = ⊤
Of_large SessionEnded = ⊤
Of_large Dropped = ⊥

abbrev pub Of_released : Bool → Ending → Type 0
Of_released true e = Of_taken e
Of_released false e = Of_large e

-- it keeps what it carries, does not wait again, nor is it sent once it was released, and it ends once
abbrev pub Next : Life → Life → Type 0
Next (waiting b) f = body_of f ≡ b
Next (in_flight i (sent h) b) (waiting c) = ⊥
Next (in_flight i (sent h) b) (in_flight j q c) = c ≡ b
Next (in_flight i (sent h) b) (ended e c) = Of_sent e × (c ≡ b)
Next (in_flight i (released h t) b) (waiting c) = ⊥
Next (in_flight i (released h t) b) (in_flight j (sent k) c) = ⊥
Next (in_flight i (released h t) b) (in_flight j (released k u) c) = (u ≡ t) × (c ≡ b)
Next (in_flight i (released h t) b) (ended e c) = Of_released t e × (c ≡ b)
Next (ended e b) f = f ≡ ended e b

abbrev pub Goes_on : Option Life → Option Life → Type 0
Goes_on None g = ⊤
Goes_on (Some f) None = ⊥
Goes_on (Some f) (Some g) = Next f g

-- what was read is what the copies carry
abbrev pub Carries : List Life → List Handed → Type 0
Carries fs [] = ⊤
Carries fs (h ∷ hs) = (option_map body_of (slice_get fs h.copy) ≡ Some h.body) × Carries fs hs

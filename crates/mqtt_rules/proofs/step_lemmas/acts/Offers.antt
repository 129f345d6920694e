-- A packet that goes out on a line if a test says so (MQTT 5.0, 3.1.2.11.4).
use Rattle.std.proofs.Common.{◌≡◌, Bool, true, false, cond, List, [], ◌∷◌, Option, Some, None, refl, subst}
use Rattle.std.specs.Prelude.{nat_le}
use Rattle.mqtt_packet.specs.declared.codec.packet.Packet.{Packet}
use Rattle.mqtt_rules.specs.step.Fitting.{offer_if}
use Rattle.mqtt_rules.specs.step.Deeds.{Deed, Send, offer}
use Rattle.mqtt_rules.specs.step.Packets.{size_of}
use Rattle.mqtt_rules.specs.step.State.{Line}

-- an offer asks whether the packet as it is is within the client's Maximum Packet Size
pub offer_is : (o : Option Line) (packet : Packet) → offer_if (λ l. nat_le (size_of packet) l.largest) o packet ≡ offer o packet
offer_is None packet = refl
offer_is (Some l) packet = refl

-- what holds of no deed, and of the packet that goes out on the line, holds whatever the test is
pub of_offer_if : (P : List Deed → Type 0) (may : Line → Bool) (o : Option Line) (packet : Packet) → P [] → ((l : Line) → o ≡ Some l → P (Send l.number packet ∷ [])) → P (offer_if may o packet)
of_offer_if P may None packet none sent = none
of_offer_if P may (Some l) packet none sent = by (may l)
  where
    by : (t : Bool) → P (cond t (Send l.number packet ∷ []) [])
    by true = sent l refl
    by false = none

-- so it holds of an offer
pub of_offer : (P : List Deed → Type 0) (o : Option Line) (packet : Packet) → P [] → ((l : Line) → o ≡ Some l → P (Send l.number packet ∷ [])) → P (offer o packet)
of_offer P o packet none sent = subst P (offer_is o packet) (of_offer_if P (λ l. nat_le (size_of packet) l.largest) o packet none sent)

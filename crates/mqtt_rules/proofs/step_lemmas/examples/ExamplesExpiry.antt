-- A copy that waits expires, one that was sent does not (MQTT 5.0, 3.3.2.3.3).
use Rattle.std.proofs.Common.{◌≡◌, ℕ, true, false, List, [], ◌∷◌, ◌++◌, refl}
use Rattle.std.specs.Prelude.{codes}
use Rattle.mqtt_base.specs.Values.{varint}
use Rattle.mqtt_base.specs.declared.session.Ending.TheVariants.{Expired}
use Rattle.mqtt_props.specs.declared.table.PropName.TheVariants.{MessageExpiryInterval}
use Rattle.mqtt_props.specs.Properties.{U32}
use Rattle.mqtt_packet.specs.declared.codec.packet.Packet.{Packet}
use Rattle.mqtt_packet.specs.declared.codec.packet.Packet.TheVariants.{Publish}
use Rattle.mqtt_rules.specs.declared.step.Report.TheVariants.{Ended}
use Rattle.mqtt_records.specs.messages.PassedOn.{property}
use Rattle.mqtt_rules.specs.step.Step.{NewLine, Input, Lost, Pump, Tick, Outcome}
use Rattle.mqtt_rules.proofs.step_lemmas.examples.Play.{Event, at, asks, out, hello, message, copy_out, direct, subscribed}

-- what is told if only the answer goes out
abbrev says : ℕ → Packet → Outcome
says line packet = out ((line, packet) ∷ []) [] [] false

-- ---- expiry: a copy that waits expires, one that was sent doesn't (3.3.2.3.3)

abbrev five_seconds : Packet
five_seconds = Publish (record (message 10) { properties = property MessageExpiryInterval (U32 5) ∷ [] })

abbrev lapsing : List Event
lapsing = subscribed ++ at 0 (Input 2 five_seconds) ∷ []

a_pump_ends_one_that_expired : asks lapsing (at 5000 (Pump 1)) ≡ out [] [] (Ended (direct 1 1) (codes "r1") Expired ∷ []) false
unfolding varint
a_pump_ends_one_that_expired = refl

it_is_sent_before : asks lapsing (at 4999 (Pump 1)) ≡ says 1 (copy_out false 1 (property MessageExpiryInterval (U32 1) ∷ []))
unfolding varint
it_is_sent_before = refl

abbrev sent_in_time : List Event
sent_in_time = lapsing ++ at 4999 (Pump 1) ∷ []

a_sent_one_does_not_expire : asks sent_in_time (at 9000 Tick) ≡ out [] [] [] false
unfolding varint
a_sent_one_does_not_expire = refl

abbrev late_resumption : List Event
late_resumption = sent_in_time ++ at 9000 (Lost 1) ∷ at 9000 NewLine ∷ at 9000 (Input 3 (hello (codes "r1"))) ∷ []

it_is_resent_with_no_time_left : asks late_resumption (at 9000 (Pump 3))
    ≡ says 3 (copy_out true 1 (property MessageExpiryInterval (U32 0) ∷ []))
unfolding varint
it_is_resent_with_no_time_left = refl

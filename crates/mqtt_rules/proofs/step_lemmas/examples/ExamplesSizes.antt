-- A packet of exactly the size that a client takes is sent, a larger one is left out (MQTT 5.0, 3.1.2.11.4).
use Rattle.std.proofs.Common.{◌≡◌, ℕ, false, List, [], ◌∷◌, ◌++◌, None, refl}
use Rattle.std.specs.Prelude.{codes, replicate}
use Rattle.mqtt_base.specs.Values.{varint}
use Rattle.mqtt_base.specs.declared.session.Qos.TheVariants.{AtMostOnce}
use Rattle.mqtt_props.specs.declared.table.PropName.TheVariants.{MaximumPacketSize}
use Rattle.mqtt_props.specs.Properties.{U32}
use Rattle.mqtt_packet.specs.declared.codec.publish.Delivery.TheVariants as delivery
use Rattle.mqtt_packet.specs.declared.codec.packet.Packet.{Packet}
use Rattle.mqtt_packet.specs.declared.codec.packet.Packet.TheVariants.{Publish}
use Rattle.mqtt_rules.specs.declared.step.Report.TheVariants.{Accepted}
use Rattle.mqtt_records.specs.messages.PassedOn.{property}
use Rattle.mqtt_rules.specs.step.Packets.{suback, unsuback}
use Rattle.mqtt_rules.specs.step.Step.{Input, Outcome}
use Rattle.mqtt_rules.proofs.step_lemmas.examples.Play.{Event, at, asks, out, hello, hello_with, never_expires, in_line, wants_with, wish, options, wants, gives_up, topic}

-- r1 takes packets of 64 bytes
abbrev limited : List Event
limited = in_line 1 (hello_with (codes "r1") (never_expires ∷ property MaximumPacketSize (U32 64) ∷ []) None)

-- ---- two bytes of head, two of identifier, one of properties, and a code for each of the filters, which are none

abbrev subscribes : ℕ → Outcome
subscribes count = asks limited (at 0 (Input 1 (wants_with 7 [] (replicate count (wish [] (options AtMostOnce))))))

a_suback_of_64_bytes : subscribes 59 ≡ out ((1, suback 7 (replicate 59 0x8f)) ∷ []) [] [] false
unfolding varint
a_suback_of_64_bytes = refl

a_suback_of_65_bytes : subscribes 60 ≡ out [] [] [] false
unfolding varint
a_suback_of_65_bytes = refl

abbrev unsubscribes : ℕ → Outcome
unsubscribes count = asks limited (at 0 (Input 1 (gives_up 7 (replicate count []))))

an_unsuback_of_64_bytes : unsubscribes 59 ≡ out ((1, unsuback 7 (replicate 59 0x8f)) ∷ []) [] [] false
unfolding varint
an_unsuback_of_64_bytes = refl

an_unsuback_of_65_bytes : unsubscribes 60 ≡ out [] [] [] false
unfolding varint
an_unsuback_of_65_bytes = refl

-- ---- a copy of QoS 0: two bytes of head, five of topic, one of properties, and the payload

abbrev message : ℕ → Packet
message bytes = Publish (record { delivery = delivery.AtMostOnce; retain = false; topic = topic; properties = []; payload = replicate bytes 33 })

abbrev comes : ℕ → Outcome
comes bytes = asks (limited ++ at 0 (Input 1 (wants 1 topic AtMostOnce)) ∷ in_line 2 (hello (codes "p1"))) (at 0 (Input 2 (message bytes)))

a_copy_of_64_bytes : comes 56 ≡ out ((1, message 56) ∷ []) [] (Accepted 1 ∷ []) false
unfolding varint
a_copy_of_64_bytes = refl

a_copy_of_65_bytes : comes 57 ≡ out [] [] (Accepted 1 ∷ []) false
unfolding varint
a_copy_of_65_bytes = refl

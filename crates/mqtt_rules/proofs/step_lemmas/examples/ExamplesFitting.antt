-- A copy is too large only if no form of its PUBLISH is within, by what its client was told before it (MQTT 5.0, 3.1.2.11.4, 3.3.2.3.4).
use Rattle.std.proofs.Common.{◌≡◌, ℕ, false, List, [], ◌∷◌, ◌++◌, None, refl}
use Rattle.std.specs.Prelude.{codes, replicate}
use Rattle.mqtt_base.specs.Values.{varint}
use Rattle.mqtt_base.specs.declared.session.Qos.{Qos}
use Rattle.mqtt_base.specs.declared.session.Qos.TheVariants.{AtMostOnce, AtLeastOnce}
use Rattle.mqtt_props.specs.declared.table.PropName.TheVariants.{MaximumPacketSize, MessageExpiryInterval, TopicAliasMaximum}
use Rattle.mqtt_props.specs.Properties.{Prop, U16, U32}
use Rattle.mqtt_packet.specs.declared.codec.publish.Delivery.{Delivery}
use Rattle.mqtt_packet.specs.declared.codec.publish.Delivery.TheVariants as delivery
use Rattle.mqtt_packet.specs.declared.codec.packet.Packet.{Packet}
use Rattle.mqtt_packet.specs.declared.codec.packet.Packet.TheVariants.{Publish}
use Rattle.mqtt_records.specs.messages.PassedOn.{property}
use Rattle.mqtt_rules.specs.step.Step.{Input, Pump, Outcome}
use Rattle.mqtt_rules.proofs.step_lemmas.examples.Play.{Event, at, asks, hello, hello_with, never_expires, in_line, wants}

-- a topic of 12 bytes
abbrev roof : List ℕ
roof = codes "sensors/roof"

-- r1 takes packets of 64 bytes and ten aliases, and is there for the topic; p1 is connected
abbrev limited : Qos → List Event
limited qos =
    in_line 1 (hello_with (codes "r1") (never_expires ∷ property MaximumPacketSize (U32 64) ∷ property TopicAliasMaximum (U16 10) ∷ []) None)
    ++ at 0 (Input 1 (wants 1 roof qos)) ∷ in_line 2 (hello (codes "p1"))

abbrev message_with : List Prop → Delivery → ℕ → Packet
message_with ps how bytes = Publish (record { delivery = how; retain = false; topic = roof; properties = ps; payload = replicate bytes 33 })

abbrev message : Delivery → ℕ → Packet
message how bytes = message_with [] how bytes

abbrev outputs : Outcome → List (ℕ × Packet)
outputs o = o.outputs

-- ---- at QoS 0: 17 bytes and the payload with the topic, 8 by its alias alone

abbrev plain : ℕ → Packet
plain bytes = message delivery.AtMostOnce bytes

nothing_was_told : outputs (asks (limited AtMostOnce) (at 0 (Input 2 (plain 50)))) ≡ []
unfolding varint
nothing_was_told = refl

abbrev told : List Event
told = limited AtMostOnce ++ at 0 (Input 2 (plain 1)) ∷ []

by_its_alias : outputs (asks told (at 0 (Input 2 (plain 56)))) ≡ (1, plain 56) ∷ []
unfolding varint
by_its_alias = refl

too_large_by_its_alias : outputs (asks told (at 0 (Input 2 (plain 57)))) ≡ []
unfolding varint
too_large_by_its_alias = refl

-- ---- in a pump, at QoS 1: what is sent tells its topic to the copy behind it, and what ends tells nothing

abbrev queued : ℕ → ℕ → List Event
queued one other =
    limited AtLeastOnce
    ++ at 0 (Input 2 (message (delivery.AtLeastOnce false 10) one))
    ∷ at 0 (Input 2 (message (delivery.AtLeastOnce false 11) other)) ∷ []

small_and_large : outputs (asks (queued 1 50) (at 0 (Pump 1))) ≡ (1, message (delivery.AtLeastOnce false 1) 1) ∷ (1, message (delivery.AtLeastOnce false 2) 50) ∷ []
unfolding varint
small_and_large = refl

large_and_small : outputs (asks (queued 50 1) (at 0 (Pump 1))) ≡ (1, message (delivery.AtLeastOnce false 1) 1) ∷ []
unfolding varint
large_and_small = refl

abbrev expired_and_large : List Event
expired_and_large =
    limited AtLeastOnce
    ++ at 0 (Input 2 (message_with (property MessageExpiryInterval (U32 1) ∷ []) (delivery.AtLeastOnce false 10) 1))
    ∷ at 0 (Input 2 (message (delivery.AtLeastOnce false 11) 50)) ∷ []

an_expired_copy_tells_nothing : outputs (asks expired_and_large (at 2000 (Pump 1))) ≡ []
unfolding varint
an_expired_copy_tells_nothing = refl

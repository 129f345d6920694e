-- What a Will's publication is, and the interval that a DISCONNECT sets (MQTT 5.0, 3.1.2.5, 3.1.3.2, 3.14.2.2.2).
use Rattle.std.proofs.Common.{◌≡◌, ℕ, Bool, true, false, List, [], ◌∷◌, ◌++◌, Some, None, refl}
use Rattle.std.specs.Prelude.{codes}
use Rattle.mqtt_base.specs.Values.{varint}
use Rattle.mqtt_base.specs.declared.session.Qos.TheVariants.{ExactlyOnce}
use Rattle.mqtt_base.specs.declared.session.Cause.TheVariants.{Retained}
use Rattle.mqtt_props.specs.declared.table.PropName.TheVariants.{SessionExpiryInterval, WillDelayInterval, ContentType}
use Rattle.mqtt_props.specs.Properties.{Prop, U32, Text}
use Rattle.mqtt_packet.specs.declared.codec.packet.Packet.{Packet}
use Rattle.mqtt_packet.specs.declared.codec.packet.Packet.TheVariants.{Disconnect}
use Rattle.mqtt_rules.specs.declared.step.Report.TheVariants.{Entered}
use Rattle.mqtt_rules.specs.step.Packets.{reason, suback, disconnect}
use Rattle.mqtt_records.specs.messages.PassedOn.{property}
use Rattle.mqtt_rules.specs.step.Step.{Input, Lost, Pump, Tick}
use Rattle.mqtt_rules.proofs.step_lemmas.examples.Play.{Event, at, asks, out, hello, hello_with, never_expires, in_line, wants, topic, hi, copy_out}

abbrev mourned : Bool → List Prop → List Event
mourned retain ps = in_line 1 (hello_with (codes "w1") (never_expires ∷ [])
    (Some (record { qos = ExactlyOnce; retain = retain; properties = ps; topic = topic; payload = hi })))

-- ---- its delay is no property of the message

abbrev plain_text : Prop
plain_text = property ContentType (Text (codes "text"))

abbrev delayed : List Event
delayed = mourned false (property WillDelayInterval (U32 10) ∷ plain_text ∷ [])
    ++ in_line 2 (hello (codes "r1")) ++ at 0 (Input 2 (wants 1 topic ExactlyOnce)) ∷ at 0 (Lost 1) ∷ at 10000 Tick ∷ []

the_delay_is_not_passed_on : asks delayed (at 10000 (Pump 2)) ≡ out ((2, copy_out false 1 (plain_text ∷ [])) ∷ []) [] [] false
unfolding varint
the_delay_is_not_passed_on = refl

-- ---- with RETAIN it is retained

abbrev comes_later : Bool → List Event
comes_later retain = mourned retain [] ++ at 0 (Lost 1) ∷ in_line 2 (hello (codes "r1"))

a_will_is_retained : asks (comes_later true) (at 0 (Input 2 (wants 1 topic ExactlyOnce)))
    ≡ out ((2, suback 1 (2 ∷ [])) ∷ []) [] (Entered (record { publication = 1; birth = 2; cause = Retained 1 }) (codes "r1") ∷ []) false
unfolding varint
a_will_is_retained = refl

another_is_not : asks (comes_later false) (at 0 (Input 2 (wants 1 topic ExactlyOnce))) ≡ out ((2, suback 1 (2 ∷ [])) ∷ []) [] [] false
unfolding varint
another_is_not = refl

-- ---- a Session Expiry Interval above 0 when CONNECT had none breaks the protocol, 0 doesn't

abbrev leaves : ℕ → Packet
leaves seconds = Disconnect (record { reason = reason 0; properties = property SessionExpiryInterval (U32 seconds) ∷ [] })

abbrev for_no_time : List Event
for_no_time = in_line 1 (hello_with (codes "r1") [] None)

none_after_none : asks for_no_time (at 0 (Input 1 (leaves 0))) ≡ out [] (1 ∷ []) [] false
unfolding varint
none_after_none = refl

some_after_none : asks for_no_time (at 0 (Input 1 (leaves 1))) ≡ out ((1, disconnect 0x82) ∷ []) (1 ∷ []) [] false
unfolding varint
some_after_none = refl

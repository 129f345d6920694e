-- Wills and DISCONNECT, DUP, No Local, turns in a group, and copies of one step (MQTT 5.0, 3.14.4, 4.3.3, 4.8.2).
use Rattle.std.proofs.Common.{◌≡◌, ℕ, true, false, List, [], ◌∷◌, ◌++◌, Some, None, refl}
use Rattle.std.specs.Prelude.{codes}
use Rattle.mqtt_base.specs.Values.{varint}
use Rattle.mqtt_base.specs.declared.session.Qos.{Qos}
use Rattle.mqtt_base.specs.declared.session.Qos.TheVariants.{AtLeastOnce, ExactlyOnce}
use Rattle.mqtt_base.specs.declared.session.Cause.TheVariants.{Retained}
use Rattle.mqtt_base.specs.declared.session.Ending.TheVariants.{SessionEnded}
use Rattle.mqtt_props.specs.declared.table.PropName.TheVariants.{SessionExpiryInterval}
use Rattle.mqtt_props.specs.Properties.{U32}
use Rattle.mqtt_packet.specs.declared.connect.connect.Will.{Will}
use Rattle.mqtt_packet.specs.declared.codec.publish.Delivery.TheVariants as delivery
use Rattle.mqtt_packet.specs.declared.codec.packet.Packet.{Packet}
use Rattle.mqtt_packet.specs.declared.codec.packet.Packet.TheVariants.{Publish}
use Rattle.mqtt_flow.specs.declared.outbound.entry.Full.TheVariants.{Drop}
use Rattle.mqtt_rules.specs.declared.step.Report.{Report}
use Rattle.mqtt_rules.specs.declared.step.Report.TheVariants.{Accepted, Entered, Ended}
use Rattle.mqtt_records.specs.messages.PassedOn.{property}
use Rattle.mqtt_rules.specs.step.Packets.{pubrec, suback, disconnect}
use Rattle.mqtt_rules.specs.step.Step.{Input, Lost, Pump, Tick}
use Rattle.mqtt_rules.proofs.step_lemmas.examples.Play.{blank, Event, at, asks, runs_with, tells_with, out, hello_with, hello, in_line, wants_with, wish, options, wants, topic, hi, message, sends, direct, subscribed, narrow, keeps, shared, in_group}

-- ---- Wills: DISCONNECT 00 drops one, any other code keeps it (3.14.4)

abbrev will : Will
will = record { qos = ExactlyOnce; retain = false; properties = []; topic = topic; payload = hi }

abbrev mourned : List Event
mourned = in_line 1 (hello (codes "r1")) ++ at 0 (Input 1 (wants 1 topic ExactlyOnce))
    ∷ in_line 2 (hello_with (codes "w1") (property SessionExpiryInterval (U32 0) ∷ []) (Some will))

abbrev published : List Report
published = Accepted 1 ∷ Entered (direct 1 1) (codes "r1") ∷ []

a_goodbye_drops_the_will : asks mourned (at 0 (Input 2 (disconnect 0))) ≡ out [] (2 ∷ []) [] false
unfolding varint
a_goodbye_drops_the_will = refl

a_goodbye_with_its_will : asks mourned (at 0 (Input 2 (disconnect 4))) ≡ out [] (2 ∷ []) published false
unfolding varint
a_goodbye_with_its_will = refl

a_lost_line_keeps_it : asks mourned (at 0 (Lost 2)) ≡ out [] (2 ∷ []) published false
unfolding varint
a_lost_line_keeps_it = refl

-- ---- PUBLISH (4.3.2, 4.3.3, 3.8.3.1)

-- DUP decides nothing: a new message may have it
abbrev sends_again : ℕ → Packet
sends_again id = Publish (record (message id) { delivery = delivery.ExactlyOnce true id })

a_new_message_may_have_dup : asks subscribed (at 0 (Input 2 (sends_again 10))) ≡ out ((2, pubrec 10 0) ∷ []) [] published false
unfolding varint
a_new_message_may_have_dup = refl

no_local_bars_its_own : asks (in_line 1 (hello (codes "r1"))
    ++ at 0 (Input 1 (wants_with 1 [] (wish topic (record (options ExactlyOnce) { no_local = true }) ∷ []))) ∷ [])
    (at 0 (Input 1 (sends 10))) ≡ out ((1, pubrec 10 0x10) ∷ []) [] (Accepted 1 ∷ []) false
unfolding varint
no_local_bars_its_own = refl

-- ---- groups: a member that subscribes anew keeps its turn, and a copy stays with its member at QoS 1 too (4.8.2)

abbrev pair : Qos → List Event
pair qos =
    in_line 1 (hello_with (codes "m1") (property SessionExpiryInterval (U32 5) ∷ []) None)
    ++ at 0 (Input 1 (wants 1 shared qos))
    ∷ in_line 2 (hello (codes "m2"))
    ++ at 0 (Input 2 (wants 1 shared qos))
    ∷ in_line 3 (hello (codes "p1"))

a_member_that_subscribes_anew_keeps_its_turn : asks (pair ExactlyOnce ++ at 0 (Input 1 (wants 2 shared ExactlyOnce)) ∷ [])
    (at 0 (Input 3 (sends 10)))
    ≡ out ((3, pubrec 10 0) ∷ []) [] (Accepted 1 ∷ Entered (in_group 1 1) (codes "m1") ∷ []) false
unfolding varint
a_member_that_subscribes_anew_keeps_its_turn = refl

abbrev member_lost : List Event
member_lost = pair AtLeastOnce ++ at 0 (Input 3 (sends 10)) ∷ at 0 (Pump 1) ∷ at 0 (Lost 1) ∷ []

a_copy_ends_with_its_member : asks member_lost (at 5000 Tick) ≡ out [] [] (Ended (in_group 1 1) (codes "m1") SessionEnded ∷ []) true
unfolding varint
a_copy_ends_with_its_member = refl

no_other_member_gets_it : asks (member_lost ++ at 5000 Tick ∷ []) (at 5000 (Pump 2)) ≡ out [] [] [] false
unfolding varint
no_other_member_gets_it = refl

-- ---- copies that this step made give way to none: two filters, each with two retained messages, in a queue of two (ours)

abbrev four_kept : List Event
four_kept =
    in_line 1 (hello (codes "p1"))
    ++ at 0 (Input 1 (keeps (codes "a/1") 1)) ∷ at 0 (Input 1 (keeps (codes "a/2") 2))
    ∷ at 0 (Input 1 (keeps (codes "b/1") 3)) ∷ at 0 (Input 1 (keeps (codes "b/2") 4))
    ∷ in_line 2 (hello (codes "r1"))

abbrev brought : ℕ → Report
brought number = Entered (record { publication = number; birth = 2; cause = Retained 1 }) (codes "r1")

copies_of_one_step_stay : tells_with (narrow Drop 2)
    (at 0 (Input 2 (wants_with 1 [] (wish (codes "a/#") (options ExactlyOnce) ∷ wish (codes "b/#") (options ExactlyOnce) ∷ []))))
    (runs_with (narrow Drop 2) four_kept blank)
    ≡ out ((2, suback 1 (2 ∷ 0x97 ∷ [])) ∷ []) [] (brought 1 ∷ brought 2 ∷ []) false
unfolding varint
copies_of_one_step_stay = refl

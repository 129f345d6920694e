-- PUBLISH while twenty identifiers are open (MQTT 5.0, 4.3.2, 4.3.3, 4.9).
use Rattle.std.proofs.Common.{◌≡◌, ℕ, Bool, true, false, List, [], ◌∷◌, refl}
use Rattle.std.specs.Prelude.{codes}
use Rattle.mqtt_base.specs.Values.{varint}
use Rattle.mqtt_packet.specs.declared.codec.publish.Delivery.TheVariants as delivery
use Rattle.mqtt_packet.specs.declared.codec.packet.Packet.{Packet}
use Rattle.mqtt_packet.specs.declared.codec.packet.Packet.TheVariants.{Publish}
use Rattle.mqtt_records.specs.lists.Order.{change_row}
use Rattle.mqtt_records.specs.state.Session.{birth_of}
use Rattle.mqtt_rules.specs.declared.step.Report.TheVariants.{Accepted}
use Rattle.mqtt_rules.specs.step.Packets.{puback, pubrec, disconnect}
use Rattle.mqtt_rules.specs.step.State.{Broker}
use Rattle.mqtt_rules.specs.step.Step.{Input, Outcome}
use Rattle.mqtt_rules.proofs.step_lemmas.examples.Play.{blank, at, tells, out, hello, in_line, message, sends, sends_again, low, runs}

abbrev twenty : List ℕ
twenty = 1 ∷ 2 ∷ 3 ∷ 4 ∷ 5 ∷ 6 ∷ 7 ∷ 8 ∷ 9 ∷ 10 ∷ 11 ∷ 12 ∷ 13 ∷ 14 ∷ 15 ∷ 16 ∷ 17 ∷ 18 ∷ 19 ∷ 20 ∷ []

-- p1 is connected on line 1, with these open
abbrev all_open : Broker
all_open = let b = runs (in_line 1 (hello (codes "p1"))) blank in
    record b { records = record b.records { sessions = change_row birth_of 1 (λ s. record s { inbound = twenty }) b.records.sessions } }

abbrev answers : Packet → Outcome
answers packet = tells (at 0 (Input 1 packet)) all_open

abbrev at_least_once : Bool → ℕ → Packet
at_least_once dup id = Publish (record (message id) { delivery = delivery.AtLeastOnce dup id })

one_of_no_identifier_is_accepted : answers (low []) ≡ out [] [] (Accepted 1 ∷ []) false
unfolding varint
one_of_no_identifier_is_accepted = refl

a_new_one_closes_the_line : answers (sends 21) ≡ out ((1, disconnect 0x93) ∷ []) (1 ∷ []) [] false
unfolding varint
a_new_one_closes_the_line = refl

at_qos_1_too : answers (at_least_once false 21) ≡ out ((1, disconnect 0x93) ∷ []) (1 ∷ []) [] false
unfolding varint
at_qos_1_too = refl

an_open_one_is_answered_as_before : answers (sends_again 7) ≡ out ((1, pubrec 7 0) ∷ []) [] [] false
unfolding varint
an_open_one_is_answered_as_before = refl

an_open_identifier_is_in_use : answers (at_least_once false 7) ≡ out ((1, puback 7 0x91) ∷ []) [] [] false
unfolding varint
an_open_identifier_is_in_use = refl

whatever_its_dup : answers (at_least_once true 7) ≡ out ((1, puback 7 0x91) ∷ []) [] [] false
unfolding varint
whatever_its_dup = refl

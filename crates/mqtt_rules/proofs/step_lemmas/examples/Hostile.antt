-- What a client may not send is answered as the standard says, and nothing else is changed (MQTT 5.0, 3.1, 4.13).
use Rattle.std.proofs.Common.{◌≡◌, ℕ, true, false, List, [], ◌∷◌, ◌++◌, map, Some, None, refl}
use Rattle.std.specs.Prelude.{codes, replicate}
use Rattle.mqtt_base.specs.Values.{varint}
use Rattle.mqtt_base.specs.declared.session.Qos.TheVariants.{ExactlyOnce}
use Rattle.mqtt_props.specs.declared.table.PropName.TheVariants.{MaximumPacketSize, AuthenticationMethod}
use Rattle.mqtt_props.specs.Properties.{U32, Text}
use Rattle.mqtt_packet.specs.declared.connect.connect.Will.{Will}
use Rattle.mqtt_packet.specs.declared.codec.packet.Packet.{Packet}
use Rattle.mqtt_packet.specs.declared.codec.packet.Packet.TheVariants.{Pingreq, Pingresp, Auth}
use Rattle.mqtt_records.specs.state.Records.{nothing}
use Rattle.mqtt_rules.specs.declared.step.Report.TheVariants.{Accepted, Entered}
use Rattle.mqtt_records.specs.messages.PassedOn.{property}
use Rattle.mqtt_rules.specs.step.Packets.{reason, connack, pubrel, suback, unsuback, disconnect}
use Rattle.mqtt_rules.specs.step.State.{Broker}
use Rattle.mqtt_rules.specs.step.Step.{Call, NewLine, Input, BadInput, Lost, Pump, Outcome}
use Rattle.mqtt_rules.proofs.step_lemmas.examples.Play.{turned_away, told_off, hung_up, nothing_at_all, linked, usual, blank, Event, at, step, runs, asks, out, hello, hello_with, never_expires, welcome, in_line, wants, topic, hi, sends, direct, Keeps, nothing_written, away}

-- ---- a line's first packet

abbrev first_fault : ℕ → Outcome
first_fault code = asks linked (at 0 (BadInput 1 true code))

a_fault_in_connect_is_answered : map first_fault (0x81 ∷ 0x82 ∷ 0x84 ∷ 0x95 ∷ [])
    ≡ turned_away 0x81 ∷ turned_away 0x82 ∷ turned_away 0x84 ∷ turned_away 0x95 ∷ []
unfolding varint
a_fault_in_connect_is_answered = refl

another_fault_is_not : asks linked (at 0 (BadInput 1 false 0x81)) ≡ hung_up
unfolding varint
another_fault_is_not = refl

abbrev first_packet : Packet → Outcome
first_packet packet = asks linked (at 0 (Input 1 packet))

abbrev auth : Packet
auth = Auth (record { reason = reason 0x18; properties = [] })

another_packet_is_not : map first_packet (disconnect 0 ∷ Pingreq ∷ sends 10 ∷ wants 1 topic ExactlyOnce ∷ pubrel 7 0 ∷ auth ∷ [])
    ≡ replicate 6 hung_up
unfolding varint
another_packet_is_not = refl

its_fault_stores_nothing : Keeps usual (at 0 (BadInput 1 true 0x81)) (runs linked blank)
its_fault_stores_nothing = nothing_written usual (at 0 (BadInput 1 true 0x81)) (runs linked blank) refl

its_packet_stores_nothing : Keeps usual (at 5000 (Input 1 (disconnect 0))) (runs linked blank)
its_packet_stores_nothing = nothing_written usual (at 5000 (Input 1 (disconnect 0))) (runs linked blank) refl

-- ---- refusals of CONNECT

abbrev will : Will
will = record { qos = ExactlyOnce; retain = false; properties = []; topic = codes "a/+"; payload = hi }

an_authentication_method : first_packet (hello_with (codes "r1") (property AuthenticationMethod (Text (codes "x")) ∷ []) None)
    ≡ turned_away 0x8c
unfolding varint
an_authentication_method = refl

a_small_maximum_packet_size : first_packet (hello_with (codes "r1") (property MaximumPacketSize (U32 63) ∷ []) None) ≡ turned_away 0x95
unfolding varint
a_small_maximum_packet_size = refl

sixty_four_bytes_suffice : first_packet (hello_with (codes "r1") (never_expires ∷ property MaximumPacketSize (U32 64) ∷ []) None)
    ≡ out ((1, welcome false) ∷ []) [] [] false
unfolding varint
sixty_four_bytes_suffice = refl

a_name_of_64_bytes : first_packet (hello (replicate 64 97)) ≡ out ((1, welcome false) ∷ []) [] [] false
unfolding varint
a_name_of_64_bytes = refl

a_name_of_65_bytes : first_packet (hello (replicate 65 97)) ≡ turned_away 0x85
unfolding varint
a_name_of_65_bytes = refl

a_name_that_we_assign : first_packet (hello (codes "auto-9")) ≡ turned_away 0x85
unfolding varint
a_name_that_we_assign = refl

it_stores_nothing : Keeps usual (at 0 (Input 1 (hello (codes "auto-9")))) (runs linked blank)
it_stores_nothing = nothing_written usual (at 0 (Input 1 (hello (codes "auto-9")))) (runs linked blank) refl

a_will_to_a_filter : first_packet (hello_with (codes "r1") (never_expires ∷ []) (Some will)) ≡ turned_away 0x90
unfolding varint
a_will_to_a_filter = refl

-- ---- after CONNECT

abbrev later_fault : ℕ → Outcome
later_fault code = asks (in_line 1 (hello (codes "r1"))) (at 0 (BadInput 1 false code))

a_later_fault_is_answered : map later_fault (0x81 ∷ 0x82 ∷ 0x95 ∷ []) ≡ told_off 0x81 ∷ told_off 0x82 ∷ told_off 0x95 ∷ []
unfolding varint
a_later_fault_is_answered = refl

-- its session is closed, and nothing else is stored
a_fault_closes_its_session : (step (at 7 (BadInput 1 false 0x81)) (runs (in_line 1 (hello (codes "r1"))) blank)).records
    ≡ record nothing { births = 1; moment = 7; sessions = record (away 1 (codes "r1")) { closed = Some 7 } ∷ [] }
unfolding varint
a_fault_closes_its_session = refl

another_version_is_a_protocol_error : asks (in_line 1 (hello (codes "r1"))) (at 0 (BadInput 1 true 0x84)) ≡ told_off 0x82
unfolding varint
another_version_is_a_protocol_error = refl

-- those that a client may not send, and a second CONNECT
abbrev later_packet : Packet → Outcome
later_packet packet = asks (in_line 1 (hello (codes "r1"))) (at 0 (Input 1 packet))

a_packet_out_of_place_breaks_the_protocol :
    map later_packet (hello (codes "r1") ∷ connack false 0 [] ∷ suback 1 (0 ∷ []) ∷ unsuback 1 (0 ∷ []) ∷ Pingresp ∷ auth ∷ [])
    ≡ replicate 6 (told_off 0x82)
unfolding varint
a_packet_out_of_place_breaks_the_protocol = refl

-- a fault keeps the Will, which is published if the session ends with its line
abbrev mourned : List Event
mourned =
    in_line 1 (hello (codes "r1"))
    ++ at 0 (Input 1 (wants 1 topic ExactlyOnce))
    ∷ in_line 2 (hello_with (codes "w1") [] (Some (record will { topic = topic })))

abbrev survivors : Broker → List (List ℕ)
survivors b = map (λ s. s.client) b.records.sessions

a_fault_keeps_the_will : asks mourned (at 0 (BadInput 2 false 0x81))
    ≡ out ((2, disconnect 0x81) ∷ []) (2 ∷ []) (Accepted 1 ∷ Entered (direct 1 1) (codes "r1") ∷ []) false
unfolding varint
a_fault_keeps_the_will = refl

and_ends_a_session_of_no_time : survivors (step (at 0 (BadInput 2 false 0x81)) (runs mourned blank)) ≡ codes "r1" ∷ []
unfolding varint
and_ends_a_session_of_no_time = refl

-- a line that isn't there
abbrev nowhere : Call → Outcome
nowhere call = asks (in_line 1 (hello (codes "r1")) ++ at 0 NewLine ∷ at 0 (Lost 2) ∷ []) (at 0 call)

nothing_comes_of_no_line : map nowhere (Input 2 Pingreq ∷ BadInput 2 true 0x81 ∷ Lost 2 ∷ Pump 2 ∷ Input 9 (hello (codes "r1")) ∷ [])
    ≡ replicate 5 nothing_at_all
unfolding varint
nothing_comes_of_no_line = refl

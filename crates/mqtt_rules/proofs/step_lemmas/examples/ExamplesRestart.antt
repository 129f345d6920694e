-- A stop between commit and output, a restart, and the answers after it (MQTT 5.0, 4.1, 4.3, 4.4).
use Rattle.std.proofs.Common.{◌≡◌, ℕ, true, false, List, [], ◌∷◌, ◌++◌, Some, None, Ok, refl}
use Rattle.std.specs.Prelude.{codes}
use Rattle.std.specs.Str.{is_utf8, chars}
use Rattle.std.proofs.Math.Utf8.{encode}
use Rattle.mqtt_base.specs.Values.{varint}
use Rattle.mqtt_base.specs.Reading.{groups_at, varint_at, blob_at, text_at}
use Rattle.mqtt_base.specs.Items.{items_in, items_at}
use Rattle.mqtt_base.specs.declared.session.Qos.TheVariants.{ExactlyOnce}
use Rattle.mqtt_base.specs.declared.session.Cause.TheVariants.{Direct}
use Rattle.mqtt_base.specs.declared.session.Phase.TheVariants.{Waiting, Sent}
use Rattle.mqtt_base.specs.declared.session.Ending.TheVariants.{Taken, Refused}
use Rattle.mqtt_props.specs.declared.table.PropName.TheVariants.{SessionExpiryInterval}
use Rattle.mqtt_props.specs.Properties.{U32}
use Rattle.mqtt_props.specs.Reading.{value_at, prop_at, block_at}
use Rattle.mqtt_props.specs.Laws.{layout_at}
use Rattle.mqtt_packet.specs.declared.codec.packet.Packet.{Packet}
use Rattle.mqtt_packet.specs.declared.codec.packet.Packet.TheVariants.{Disconnect}
use Rattle.mqtt_packet.specs.connect.Connect.{will_at, user_name_at, password_at, fields_at, connect_at}
use Rattle.mqtt_packet.specs.codec.Tails.{tail_at}
use Rattle.mqtt_packet.specs.codec.Ack.{ack_at}
use Rattle.mqtt_packet.specs.codec.Packets.{shortest_of}
use Rattle.mqtt_packet.specs.codec.Frames.{frame_at, body_at, versioned_at, lawful_at, packet_at}
use Rattle.mqtt_records.specs.declared.messages.message.MessageCopy.{MessageCopy}
use Rattle.mqtt_records.specs.declared.state.session.Session.{Session}
use Rattle.mqtt_records.specs.declared.state.change.Counter.TheVariants.{Moment, Publications}
use Rattle.mqtt_records.specs.declared.state.change.Change.{Change}
use Rattle.mqtt_records.specs.declared.state.change.Change.TheVariants.{SetCounter, PutInbound, PutCopy, SetCopy}
use Rattle.mqtt_rules.specs.declared.step.Report.TheVariants.{Accepted, Entered, Ended}
use Rattle.mqtt_rules.specs.step.Packets.{reason, puback, pubrec, pubrel, pubcomp, disconnect}
use Rattle.mqtt_records.specs.messages.PassedOn.{property}
use Rattle.mqtt_rules.specs.step.State.{Broker}
use Rattle.mqtt_rules.specs.step.Step.{Call, Input, Pump, at_moment, deeds, rows_written, copy_of}
use Rattle.mqtt_rules.proofs.step_lemmas.examples.Play.{usual, first, hi, options, blank, Event, at, step, runs, tells, reopened, out, hello, welcome, in_line, topic, sends, copy_out, direct, subscribed, published, bytes, all_outputs, all_reports}

-- ---- a stop after the commit of `pump`, before its output

abbrev cut_short : List Event
cut_short = published ++ at 0 (Pump 1) ∷ []

-- what is stored then: two sessions, r1's subscription, p1's open identifier, and the copy with its packet identifier
abbrev its_copy : MessageCopy
its_copy = record {
  id = record { publication = 1; birth = 1; cause = Direct };
  qos = ExactlyOnce;
  retain = false;
  identifiers = [];
  content = record { topic = topic; properties = []; payload = hi; arrived = 0 };
}

abbrev of_r1 : Session
of_r1 = record {
  birth = 1;
  client = codes "r1";
  expiry = 0xffffffff;
  closed = None;
  will = None;
  subscriptions = record { filter = topic; place = 1; options = options ExactlyOnce; identifier = None } ∷ [];
  inbound = [];
  queue = record { place = 1; phase = Sent 1; copy = its_copy } ∷ [];
}

abbrev of_p1 : Session
of_p1 = record {
  birth = 2;
  client = codes "p1";
  expiry = 0xffffffff;
  closed = None;
  will = None;
  subscriptions = [];
  inbound = 10 ∷ [];
  queue = [];
}

what_is_stored : (runs cut_short blank).records
    ≡ record { births = 2; publications = 1; subscribes = 1; autos = 0; moment = 0; sessions = of_r1 ∷ of_p1 ∷ []; retained = [] }
unfolding varint
what_is_stored = refl

-- the rows that the steps of the PUBLISH and of `pump` wrote
abbrev rows_by : Call → Broker → List Change
rows_by call b = rows_written (deeds usual first 0 call b) b

rows_of_the_publish : rows_by (Input 2 (sends 10)) (runs subscribed blank)
    ≡ SetCounter Publications 1 ∷ PutCopy 1 (record { place = 1; phase = Waiting; copy = its_copy }) ∷ PutInbound 2 10 ∷ []
unfolding varint
rows_of_the_publish = refl

rows_of_the_pump : rows_by (Pump 1) (runs published blank) ≡ SetCopy 1 1 (Sent 1) ∷ []
unfolding varint
rows_of_the_pump = refl

-- of a later moment than the stored one there is a row too
rows_of_a_later_pump : rows_written (deeds usual first 5 (Pump 1) (runs published blank)) (at_moment 5 (runs published blank))
    ≡ SetCopy 1 1 (Sent 1) ∷ SetCounter Moment 5 ∷ []
unfolding varint
rows_of_a_later_pump = refl

-- a session that ends takes its subscriptions and copies with it
abbrev ends_now : Packet
ends_now = Disconnect (record { reason = reason 0; properties = property SessionExpiryInterval (U32 0) ∷ [] })

an_end_leaves_nothing : (runs (cut_short ++ at 0 (Input 1 ends_now) ∷ []) blank).records.sessions ≡ of_p1 ∷ []
unfolding varint
an_end_leaves_nothing = refl

-- the restart comes at whatever moment
abbrev after_stop : ℕ → Broker
after_stop now = reopened now (runs cut_short blank)

-- CONNECT of r1: the session is resumed, and the copy is sent again, with DUP
hello_read : packet_at (bytes "10 14 00 04 4d 51 54 54 05 00 00 00 05 11 ff ff ff ff 00 02 72 31") ≡ Ok (hello (codes "r1"))
unfolding packet_at frame_at versioned_at lawful_at body_at connect_at fields_at will_at user_name_at password_at layout_at block_at items_at items_in prop_at value_at text_at blob_at is_utf8 chars encode varint_at groups_at
hello_read = refl

a_session_outlives_a_restart : (now : ℕ) → all_outputs (in_line 1 (hello (codes "r1"))) (after_stop now) ≡ (1, welcome true) ∷ []
unfolding varint
a_session_outlives_a_restart now = refl

welcome_back_bytes : shortest_of (welcome true) ≡ bytes "20 0e 01 00 0b 21 00 14 22 00 0a 27 00 01 00 00"
unfolding varint
welcome_back_bytes = refl

abbrev r1_back : ℕ → Broker
r1_back now = runs (in_line 1 (hello (codes "r1"))) (after_stop now)

a_sent_copy_is_sent_again : (now : ℕ) → tells (at now (Pump 1)) (r1_back now) ≡ out ((1, copy_out true 1 []) ∷ []) [] [] false
unfolding varint
a_sent_copy_is_sent_again now = refl

sent_again_bytes : shortest_of (copy_out true 1 []) ≡ bytes "3c 0a 00 03 61 2f 62 00 01 00 68 69"
unfolding varint
sent_again_bytes = refl

-- it entered once, before the stop, and ends once, after it
abbrev rest_of_handshake : List Event
rest_of_handshake = in_line 1 (hello (codes "r1")) ++ at 0 (Pump 1) ∷ at 0 (Input 1 (pubrec 1 0)) ∷ at 0 (Input 1 (pubcomp 1 0)) ∷ at 0 (Pump 1) ∷ []

one_entry_before_the_stop : all_reports cut_short blank ≡ Accepted 1 ∷ Entered (direct 1 1) (codes "r1") ∷ []
unfolding varint
one_entry_before_the_stop = refl

one_end_after_the_stop : (now : ℕ) → all_reports rest_of_handshake (after_stop now) ≡ Ended (direct 1 1) (codes "r1") Taken ∷ []
unfolding varint
one_end_after_the_stop now = refl

-- ---- answers of the client to that PUBLISH

abbrev sent_again : Broker
sent_again = step (at 0 (Pump 1)) (r1_back 0)

-- PUBACK answers no copy of QoS 2
puback_read : packet_at (bytes "40 02 00 01") ≡ Ok (puback 1 0)
unfolding packet_at frame_at lawful_at body_at ack_at tail_at varint_at groups_at
puback_read = refl

puback_for_qos_2_closes : tells (at 0 (Input 1 (puback 1 0))) sent_again ≡ out ((1, disconnect 0x82) ∷ []) (1 ∷ []) [] false
unfolding varint
puback_for_qos_2_closes = refl

-- a refusal ends the copy, and frees its identifier for the next one
refusal_read : packet_at (bytes "50 03 00 01 80") ≡ Ok (pubrec 1 0x80)
unfolding packet_at frame_at lawful_at body_at ack_at tail_at varint_at groups_at
refusal_read = refl

a_refusal_ends_the_copy : tells (at 0 (Input 1 (pubrec 1 0x80))) sent_again ≡ out [] [] (Ended (direct 1 1) (codes "r1") Refused ∷ []) false
unfolding varint
a_refusal_ends_the_copy = refl

abbrev refused : Broker
refused = step (at 0 (Input 1 (pubrec 1 0x80))) sent_again

before_it_is_refused : copy_of 1 1 sent_again ≡ Some (direct 1 1)
unfolding varint
before_it_is_refused = refl

its_identifier_is_free : copy_of 1 1 refused ≡ None
unfolding varint
its_identifier_is_free = refl

its_identifier_is_given_again : all_outputs (in_line 2 (hello (codes "p2")) ++ at 0 (Input 2 (sends 1)) ∷ at 0 (Pump 1) ∷ []) refused
    ≡ (2, welcome false) ∷ (2, pubrec 1 0) ∷ (1, copy_out false 1 []) ∷ []
unfolding varint
its_identifier_is_given_again = refl

-- answers to an identifier that no copy has
unknown_pubrec_read : packet_at (bytes "50 02 00 09") ≡ Ok (pubrec 9 0)
unfolding packet_at frame_at lawful_at body_at ack_at tail_at varint_at groups_at
unknown_pubrec_read = refl

an_unknown_pubrec_is_answered : tells (at 0 (Input 1 (pubrec 9 0))) sent_again ≡ out ((1, pubrel 9 0x92) ∷ []) [] [] false
unfolding varint
an_unknown_pubrec_is_answered = refl

not_found_bytes : shortest_of (pubrel 9 0x92) ≡ bytes "62 03 00 09 92"
unfolding varint
not_found_bytes = refl

unknown_pubcomp_read : packet_at (bytes "70 02 00 09") ≡ Ok (pubcomp 9 0)
unfolding packet_at frame_at lawful_at body_at ack_at tail_at varint_at groups_at
unknown_pubcomp_read = refl

an_unknown_pubcomp_is_passed_over : tells (at 0 (Input 1 (pubcomp 9 0))) sent_again ≡ out [] [] [] false
unfolding varint
an_unknown_pubcomp_is_passed_over = refl

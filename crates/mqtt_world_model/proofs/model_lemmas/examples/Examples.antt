-- Worked runs of the world: a publisher whose line is given up in mid-handshake, read in both orders (MQTT 5.0, 4.3.3, 4.4).
use Rattle.std.proofs.Common.{◌≡◌, ℕ, true, false, List, [], ◌∷◌, ◌++◌, length, Option, Some, refl}
use Rattle.std.specs.Prelude.{codes, option_map, filter_map, map}
use Rattle.mqtt_base.specs.Values.{varint}
use Rattle.std.specs.Str.{is_utf8, chars}
use Rattle.std.proofs.Math.Utf8.{encode}
use Rattle.mqtt_base.specs.Reading.{groups_at, varint_at, blob_at, text_at}
use Rattle.mqtt_base.specs.Items.{items_in, items_at}
use Rattle.mqtt_base.specs.declared.session.Cause.TheVariants.{Direct}
use Rattle.mqtt_base.specs.declared.session.Ending.TheVariants.{Taken}
use Rattle.mqtt_props.specs.Reading.{value_at, prop_at, block_at}
use Rattle.mqtt_props.specs.Laws.{layout_at}
use Rattle.mqtt_packet.specs.connect.Connect.{will_at, user_name_at, password_at, fields_at, connect_at}
use Rattle.mqtt_packet.specs.codec.Publish.{delivery_at, publish_at}
use Rattle.mqtt_packet.specs.codec.Frames.{frame_at, body_at, versioned_at, lawful_at, packet_at}
use Rattle.mqtt_packet.specs.stream.Front.{size_at, first_of}
use Rattle.mqtt_rules.specs.step.Packets.{pubrec, disconnect}
use Rattle.mqtt_flow.specs.inbound.Publisher.{PUBREL, Fate, ended, completed, forgotten}
use Rattle.mqtt_rules.specs.declared.step.Report.{Report}
use Rattle.mqtt_rules.specs.declared.step.Report.TheVariants.{Accepted, Entered, Released, Ended}
use Rattle.mqtt_rules.specs.step.Deeds.{report, output}
use Rattle.mqtt_rules.proofs.step_lemmas.examples.Play.{usual, bytes, welcome}
use Rattle.mqtt_world_model.specs.model.Ends.{Sent, shake, Publisher, Receiver, Entry}
use Rattle.mqtt_world_model.specs.model.World.{Event, publisher, connect_end, give_up, publish, to_end, ask, break, restart, stop_before, stop_after, to_broker, old_to_broker, pump, stranger, publisher_named, receiver_named}
use Rattle.mqtt_world_model.specs.model.Run.{after, deeds_over, accepted_over}
use Rattle.mqtt_world_model.specs.model.World.{start}
use Rattle.mqtt_world_model.specs.model.Tellings.{silent}
use Rattle.mqtt_world_model.proofs.model_lemmas.examples.Scripts.{turns, p1, r1, draft, published, sends_out, tellings}

-- the message is accepted, its PUBREC read, and its PUBREL under way on a line that is given up
abbrev released : List Event
released =
    publisher p1 ∷ connect_end p1 false ∷ ask (to_broker p1) ∷ to_end p1 ∷ publish p1 draft ∷ ask (to_broker p1) ∷ to_end p1
    ∷ give_up p1 ∷ connect_end p1 false ∷ []

-- the line that was given up is read first
abbrev old_first : List Event
old_first = released ++ ask (old_to_broker p1) ∷ ask (to_broker p1) ∷ to_end p1 ∷ ask (to_broker p1) ∷ to_end p1 ∷ []

-- or CONNECT
abbrev connect_first : List Event
connect_first = released ++ ask (to_broker p1) ∷ ask (old_to_broker p1) ∷ to_end p1 ∷ ask (to_broker p1) ∷ to_end p1 ∷ []

abbrev fates_after : List Event → Option (List Fate)
fates_after es = option_map (λ (p : Publisher). p.fates) (publisher_named p1 (after usual (turns es)))

abbrev reports_of : List Event → List Report
reports_of es = filter_map report (deeds_over usual (turns es) start)

abbrev sent_count : List Event → ℕ
sent_count es = length (filter_map output (deeds_over usual (turns es) start))

-- the old line first: the message completes
pub old_first_completes : fates_after old_first ≡ Some (ended completed ∷ [])
unfolding varint is_utf8 chars encode
old_first_completes = refl

-- and is accepted once
pub old_first_accepts : accepted_over p1 usual (turns old_first) start ≡ 0 ∷ []
unfolding varint is_utf8 chars encode
old_first_accepts = refl

-- what each event tells
pub old_first_is_told : tellings old_first
    ≡ silent ∷ silent ∷ sends_out 1 ∷ silent ∷ silent ∷ record { reports = Accepted 1 ∷ []; out = 1 } ∷ silent ∷ silent ∷ silent
    ∷ record { reports = Released 1 p1 1 ∷ []; out = 1 } ∷ sends_out 2 ∷ silent ∷ sends_out 1 ∷ silent ∷ []
unfolding varint is_utf8 chars encode
old_first_is_told = refl

-- and all reports together
pub old_first_tells : reports_of old_first ≡ Accepted 1 ∷ Released 1 p1 1 ∷ []
unfolding varint is_utf8 chars encode
old_first_tells = refl

-- the CONNECT first: the message completes
pub connect_first_completes : fates_after connect_first ≡ Some (ended completed ∷ [])
unfolding varint is_utf8 chars encode
connect_first_completes = refl

-- and is accepted once
pub connect_first_accepts : accepted_over p1 usual (turns connect_first) start ≡ 0 ∷ []
unfolding varint is_utf8 chars encode
connect_first_accepts = refl

-- what each event tells
pub connect_first_is_told : tellings connect_first
    ≡ silent ∷ silent ∷ sends_out 1 ∷ silent ∷ silent ∷ record { reports = Accepted 1 ∷ []; out = 1 } ∷ silent ∷ silent ∷ silent
    ∷ sends_out 2 ∷ silent ∷ silent ∷ record { reports = Released 1 p1 1 ∷ []; out = 1 } ∷ silent ∷ []
unfolding varint is_utf8 chars encode
connect_first_is_told = refl

-- CONNACK, PUBREC, DISCONNECT 8E, CONNACK, PUBCOMP
pub connect_first_sends : sent_count connect_first ≡ 5
unfolding varint is_utf8 chars encode
connect_first_sends = refl

-- what was under way on the line that was given up is dropped as CONNECT takes the session over (3.1.4)
abbrev old_line : List Event → Option (List Sent)
old_line es = option_map (λ (p : Publisher). p.line.old) (publisher_named p1 (after usual (turns es)))

-- a PUBREL is on its way on the old line
pub a_pubrel_is_under_way : old_line released ≡ Some (shake (PUBREL 1) ∷ [])
unfolding varint is_utf8 chars encode
a_pubrel_is_under_way = refl

-- a takeover drops it
pub a_takeover_drops_the_old_line : old_line (released ++ ask (to_broker p1) ∷ []) ≡ Some []
unfolding varint is_utf8 chars encode
a_takeover_drops_the_old_line = refl

-- ---- a receiver: a stop after the pump's commit, and the resent copy (4.4)

abbrev pub stopped : List Event
stopped =
    published ++ ask (to_broker p1) ∷ stop_after (pump r1)
    ∷ connect_end r1 false ∷ ask (to_broker r1) ∷ to_end r1 ∷ ask (pump r1) ∷ to_end r1 ∷ ask (to_broker r1) ∷ to_end r1 ∷ ask (to_broker r1) ∷ []

abbrev receiver_after : List Event → Option Receiver
receiver_after es = receiver_named r1 (after usual (turns es))

-- handed over once
pub stopped_hands_once : option_map (λ (r : Receiver). map (λ (e : Entry). e.copy) r.ledger) (receiver_after stopped) ≡ Some (Some (record { publication = 1; birth = 1; cause = Direct }) ∷ [])
unfolding varint is_utf8 chars encode
stopped_hands_once = refl

-- what is told if the broker stops
pub stopped_tells : reports_of stopped ≡ Accepted 1 ∷ Entered (record { publication = 1; birth = 1; cause = Direct }) r1 ∷ Ended (record { publication = 1; birth = 1; cause = Direct }) r1 Taken ∷ []
unfolding varint is_utf8 chars encode
stopped_tells = refl

-- ---- a stop before the commit of a PUBLISH, and after it: accepted once in both (4.3.3)

abbrev joined : List Event
joined = publisher p1 ∷ connect_end p1 false ∷ ask (to_broker p1) ∷ to_end p1 ∷ publish p1 draft ∷ []

abbrev resent : List Event
resent = connect_end p1 false ∷ ask (to_broker p1) ∷ to_end p1 ∷ ask (to_broker p1) ∷ to_end p1 ∷ ask (to_broker p1) ∷ to_end p1 ∷ []

-- a stop before the commit
pub a_stop_before_accepts_once : accepted_over p1 usual (turns (joined ++ stop_before (to_broker p1) ∷ resent)) start ≡ 0 ∷ []
unfolding varint is_utf8 chars encode
a_stop_before_accepts_once = refl

-- a stop behind it
pub a_stop_after_accepts_once : accepted_over p1 usual (turns (joined ++ stop_after (to_broker p1) ∷ resent)) start ≡ 0 ∷ []
unfolding varint is_utf8 chars encode
a_stop_after_accepts_once = refl

-- the message completes in both
pub both_complete : fates_after (joined ++ stop_before (to_broker p1) ∷ resent) ≡ fates_after (joined ++ stop_after (to_broker p1) ∷ resent)
unfolding varint is_utf8 chars encode
both_complete = refl

-- ---- a stranger's bytes, in pieces: CONNECT, and a PUBLISH of QoS 2 without a subscriber (2.1)

abbrev s1 : List ℕ
s1 = codes "s1"

abbrev stranger_says : List Event
stranger_says =
    ask (stranger s1 (bytes "10 14 00 04 4d 51 54 54 05 00 00 00 05 11 ff ff ff ff 00")) ∷ ask (stranger s1 (bytes "02 73 31 34 0a 00 03 61 2f 62 00 0a"))
    ∷ ask (stranger s1 (bytes "00 68 69")) ∷ []

-- a stranger's packets are answered as any client's
pub a_stranger_is_answered : filter_map output (deeds_over usual (turns stranger_says) start) ≡ (1, welcome false) ∷ (1, pubrec 10 0x10) ∷ []
unfolding varint first_of size_at packet_at frame_at versioned_at lawful_at body_at connect_at fields_at will_at user_name_at password_at publish_at delivery_at layout_at block_at items_at items_in text_at blob_at is_utf8 chars encode varint_at groups_at prop_at value_at
a_stranger_is_answered = refl

-- one that names an end does nothing
pub a_stranger_may_not_name_an_end : after usual (turns (publisher p1 ∷ ask (stranger s1 (bytes "10 14 00 04 4d 51 54 54 05 00 00 00 05 11 ff ff ff ff 00 02 70 31")) ∷ [])) ≡ after usual (turns (publisher p1 ∷ []))
unfolding varint first_of size_at packet_at frame_at versioned_at lawful_at body_at connect_at fields_at will_at user_name_at password_at publish_at delivery_at layout_at block_at items_at items_in text_at blob_at is_utf8 chars encode varint_at groups_at prop_at value_at
a_stranger_may_not_name_an_end = refl

-- ---- a PUBREC that is lost: the copy comes again, and is handed over once (4.3.3, 4.4)

abbrev lost_answer : List Event
lost_answer =
    published ++ ask (to_broker p1) ∷ ask (pump r1) ∷ to_end r1 ∷ ask (break r1) ∷ connect_end r1 false ∷ ask (to_broker r1) ∷ to_end r1 ∷ ask (pump r1) ∷ to_end r1
    ∷ ask (to_broker r1) ∷ to_end r1 ∷ ask (to_broker r1) ∷ []

-- an answer that is lost brings no second copy
pub a_lost_answer_hands_once : option_map (λ (r : Receiver). map (λ (e : Entry). e.copy) r.ledger) (receiver_after lost_answer)
    ≡ Some (Some (record { publication = 1; birth = 1; cause = Direct }) ∷ [])
unfolding varint is_utf8 chars encode
a_lost_answer_hands_once = refl

-- ---- a restart in mid-handshake: accepted once, and completed (4.3.3, 4.4)

-- a restart between PUBLISH and answer
pub a_restart_accepts_once : accepted_over p1 usual (turns (joined ++ ask (to_broker p1) ∷ restart ∷ resent)) start ≡ 0 ∷ []
unfolding varint is_utf8 chars encode
a_restart_accepts_once = refl

-- the message completes
pub a_restart_completes : fates_after (joined ++ ask (to_broker p1) ∷ restart ∷ resent) ≡ Some (ended completed ∷ [])
unfolding varint is_utf8 chars encode
a_restart_completes = refl

-- ---- a Clean Start in mid-handshake: the session ends, and the message is forgotten (3.1.2.4)

abbrev cleaned : List Event
cleaned = joined ++ ask (to_broker p1) ∷ ask (break p1) ∷ connect_end p1 true ∷ ask (to_broker p1) ∷ to_end p1 ∷ []

-- a clean start forgets what is under way
pub a_clean_start_forgets : fates_after cleaned ≡ Some (ended forgotten ∷ [])
unfolding varint is_utf8 chars encode
a_clean_start_forgets = refl

-- which was accepted
pub a_clean_start_accepts_once : accepted_over p1 usual (turns cleaned) start ≡ 0 ∷ []
unfolding varint is_utf8 chars encode
a_clean_start_accepts_once = refl

-- CONNACK with Session Present 0, PUBREC, CONNACK with Session Present 0
pub a_clean_start_is_told : filter_map output (deeds_over usual (turns cleaned) start) ≡ (1, welcome false) ∷ (1, pubrec 1 0x10) ∷ (2, welcome false) ∷ []
unfolding varint is_utf8 chars encode
a_clean_start_is_told = refl

-- ---- a late CONNECT on the line that was given up takes the session over (3.1.4)

abbrev late : List Event
late =
    publisher p1 ∷ connect_end p1 false ∷ give_up p1 ∷ connect_end p1 false ∷ ask (to_broker p1) ∷ to_end p1 ∷ publish p1 draft ∷ ask (to_broker p1)
    ∷ ask (old_to_broker p1) ∷ to_end p1 ∷ to_end p1 ∷ []

-- a CONNECT that comes late takes the session over
pub a_late_connect_takes_over : filter_map output (deeds_over usual (turns late) start) ≡ (2, welcome false) ∷ (2, pubrec 1 0x10) ∷ (2, disconnect 0x8e) ∷ (1, welcome true) ∷ []
unfolding varint is_utf8 chars encode
a_late_connect_takes_over = refl

-- with one acceptance
pub a_late_connect_accepts_once : accepted_over p1 usual (turns (late ++ connect_end p1 false ∷ ask (to_broker p1) ∷ to_end p1 ∷ ask (to_broker p1) ∷ to_end p1 ∷ [])) start ≡ 0 ∷ []
unfolding varint is_utf8 chars encode
a_late_connect_accepts_once = refl

-- and the message completes
pub a_late_connect_completes : fates_after (late ++ connect_end p1 false ∷ ask (to_broker p1) ∷ to_end p1 ∷ ask (to_broker p1) ∷ to_end p1 ∷ []) ≡ Some (ended completed ∷ [])
unfolding varint is_utf8 chars encode
a_late_connect_completes = refl

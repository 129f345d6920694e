-- Worked runs in which the broker stops, before or after a commit, at each step of the way of a message of QoS 2: it is
-- accepted once, its handshake completed, and its copy handed over once (MQTT 5.0, 4.1, 4.3.3, 4.4).
use Rattle.std.proofs.Common.{◌≡◌, ℕ, false, List, [], ◌∷◌, ◌++◌, refl}
use Rattle.std.specs.Prelude.{codes}
use Rattle.std.specs.Str.{is_utf8, chars}
use Rattle.std.proofs.Math.Utf8.{encode}
use Rattle.mqtt_base.specs.Values.{varint}
use Rattle.mqtt_base.specs.Reading.{groups_at, varint_at, blob_at, text_at}
use Rattle.mqtt_base.specs.Items.{items_in, items_at}
use Rattle.mqtt_base.specs.declared.session.Ending.TheVariants.{Taken}
use Rattle.mqtt_props.specs.Reading.{value_at, prop_at, block_at}
use Rattle.mqtt_props.specs.Laws.{layout_at}
use Rattle.mqtt_packet.specs.connect.Connect.{will_at, user_name_at, password_at, fields_at, connect_at}
use Rattle.mqtt_packet.specs.codec.Publish.{delivery_at, publish_at}
use Rattle.mqtt_packet.specs.codec.Frames.{frame_at, body_at, versioned_at, lawful_at, packet_at}
use Rattle.mqtt_packet.specs.stream.Front.{size_at, first_of}
use Rattle.mqtt_rules.specs.declared.step.Report.TheVariants.{Accepted, Entered, Ended}
use Rattle.mqtt_rules.proofs.step_lemmas.examples.Play.{bytes}
use Rattle.mqtt_world_model.specs.model.World.{Event, connect_end, to_end, ask, stop_before, stop_after, Asking, to_broker, pump, stranger}
use Rattle.mqtt_world_model.proofs.model_lemmas.examples.Examples.{stopped}
use Rattle.mqtt_world_model.specs.model.Tellings.{Telling, silent}
use Rattle.mqtt_world_model.proofs.model_lemmas.examples.Scripts.{p1, r1, first_copy, joins, exchange, round, published, pumped, sends_out, tellings, Sum, comes_to}

-- ---- a stop after the commit of a pump: the copy comes again, and is handed over once

abbrev one_out : Telling
one_out = sends_out 1

-- what is told if a pump is lost
pub a_lost_pump_is_told : tellings stopped
    ≡ silent ∷ silent ∷ silent ∷ one_out ∷ silent ∷ silent ∷ one_out ∷ silent ∷ silent ∷ one_out ∷ silent ∷ silent
    ∷ record { reports = Accepted 1 ∷ Entered first_copy r1 ∷ []; out = 1 } ∷ silent ∷ silent ∷ one_out ∷ silent ∷ one_out ∷ silent ∷ one_out ∷ silent
    ∷ record { reports = Ended first_copy r1 Taken ∷ []; out = 0 } ∷ []
unfolding varint is_utf8 chars encode
a_lost_pump_is_told = refl

-- its copy waits
pub a_lost_pump_comes_to : comes_to stopped ≡ record { handed = 1 ∷ []; queue = 0; messages = 1; done = 0; publications = 1; sessions = 2 }
unfolding varint is_utf8 chars encode
a_lost_pump_comes_to = refl

-- ---- the steps that are stopped, in turn

-- its PUBREC is answered by PUBREL
abbrev received : List Event
received = pumped ++ ask (to_broker r1) ∷ to_end r1 ∷ []

-- its PUBCOMP is taken, and the publisher has read its own PUBREC
abbrev taken : List Event
taken = received ++ ask (to_broker r1) ∷ to_end p1 ∷ []

-- both ends join again, and what is under way goes on to its end
abbrev goes_on : List Event
goes_on =
    joins r1 false ++ (connect_end p1 false ∷ exchange p1 ++ (exchange p1 ++ (exchange p1 ++ (exchange p1 ++ (exchange p1 ++ (exchange p1
    ++ (round r1 ++ round r1)))))))

abbrev once_each : Sum
once_each = record { handed = 1 ∷ []; queue = 0; messages = 1; done = 1; publications = 1; sessions = 2 }

-- without a stop
pub without_a_stop : comes_to (taken ++ exchange p1) ≡ once_each
unfolding varint is_utf8 chars encode
without_a_stop = refl

-- the broker stops before it stores a PUBLISH
pub a_stop_before_a_publish : comes_to (published ++ stop_before (to_broker p1) ∷ goes_on) ≡ once_each
unfolding varint is_utf8 chars encode
a_stop_before_a_publish = refl

-- and behind that
pub a_stop_after_a_publish : comes_to (published ++ stop_after (to_broker p1) ∷ goes_on) ≡ once_each
unfolding varint is_utf8 chars encode
a_stop_after_a_publish = refl

-- before it stores what a pump sends
pub a_stop_before_a_pump : comes_to (published ++ ask (to_broker p1) ∷ stop_before (pump r1) ∷ goes_on) ≡ once_each
unfolding varint is_utf8 chars encode
a_stop_before_a_pump = refl

-- and behind that
pub a_stop_after_a_pump : comes_to (published ++ ask (to_broker p1) ∷ stop_after (pump r1) ∷ goes_on) ≡ once_each
unfolding varint is_utf8 chars encode
a_stop_after_a_pump = refl

-- before it stores a PUBREC
pub a_stop_before_a_pubrec : comes_to (pumped ++ stop_before (to_broker r1) ∷ goes_on) ≡ once_each
unfolding varint is_utf8 chars encode
a_stop_before_a_pubrec = refl

-- and behind that
pub a_stop_after_a_pubrec : comes_to (pumped ++ stop_after (to_broker r1) ∷ goes_on) ≡ once_each
unfolding varint is_utf8 chars encode
a_stop_after_a_pubrec = refl

-- before it stores a PUBCOMP
pub a_stop_before_a_pubcomp : comes_to (received ++ stop_before (to_broker r1) ∷ goes_on) ≡ once_each
unfolding varint is_utf8 chars encode
a_stop_before_a_pubcomp = refl

-- and behind that
pub a_stop_after_a_pubcomp : comes_to (received ++ stop_after (to_broker r1) ∷ goes_on) ≡ once_each
unfolding varint is_utf8 chars encode
a_stop_after_a_pubcomp = refl

-- before it stores a PUBREL
pub a_stop_before_a_pubrel : comes_to (taken ++ stop_before (to_broker p1) ∷ goes_on) ≡ once_each
unfolding varint is_utf8 chars encode
a_stop_before_a_pubrel = refl

-- and behind that
pub a_stop_after_a_pubrel : comes_to (taken ++ stop_after (to_broker p1) ∷ goes_on) ≡ once_each
unfolding varint is_utf8 chars encode
a_stop_after_a_pubrel = refl

-- ---- what the stopped step sent is read by nobody

-- what was stored is not told
pub nothing_of_a_stopped_step_goes_out :
    comes_to (published ++ ask (to_broker p1) ∷ stop_after (pump r1) ∷ to_end r1 ∷ [])
    ≡ record { handed = []; queue = 1; messages = 1; done = 0; publications = 1; sessions = 2 }
unfolding varint is_utf8 chars encode
nothing_of_a_stopped_step_goes_out = refl

-- ---- a stop in a stranger's CONNECT and PUBLISH: the first of both alone is committed, or none

abbrev says : Asking
says = stranger (codes "s1") (bytes "10 14 00 04 4d 51 54 54 05 00 00 00 05 11 ff ff ff ff 00 02 72 31 34 0a 00 03 61 2f 62 00 0a 00 68 69")

abbrev stranger_alone : ℕ → Sum
stranger_alone sessions = record { handed = []; queue = 0; messages = 0; done = 0; publications = 0; sessions = sessions }

-- a stranger's packet that is lost
pub a_stop_before_a_stranger_is_heard : comes_to (stop_before says ∷ []) ≡ stranger_alone 0
unfolding varint first_of size_at packet_at frame_at versioned_at lawful_at body_at connect_at fields_at will_at user_name_at password_at publish_at delivery_at layout_at block_at items_at items_in text_at blob_at is_utf8 chars encode varint_at groups_at prop_at value_at
a_stop_before_a_stranger_is_heard = refl

-- and one that is stored
pub a_stop_after_a_stranger_is_heard : comes_to (stop_after says ∷ []) ≡ stranger_alone 1
unfolding varint first_of size_at packet_at frame_at versioned_at lawful_at body_at connect_at fields_at will_at user_name_at password_at publish_at delivery_at layout_at block_at items_at items_in text_at blob_at is_utf8 chars encode varint_at groups_at prop_at value_at
a_stop_after_a_stranger_is_heard = refl

-- What became of a publisher's messages, in the program and in the definitions of the hop (MQTT 5.0, 4.3.2, 4.3.3).
use Rattle.std.specs.Prelude.{ℕ, Bool, true, false, List, map, Option, Some, None}
use Rattle.mqtt_flow.specs.inbound.Publisher as publisher
use Rattle.mqtt_flow.specs.inbound.Publisher.{is_sent, on_new_session, on_puback, on_pubcomp, on_pubrec}
use Rattle.mqtt_world_ends.specs.declared.handshakes.fates.Fate.{Fate}
use Rattle.mqtt_world_ends.specs.declared.handshakes.fates.Fate.TheVariants.{SentOnce, EndedOnce, Sent, Released, Ended}
use Rattle.mqtt_world_ends.specs.declared.handshakes.fates.Finish.{Finish}
use Rattle.mqtt_world_ends.specs.declared.handshakes.fates.Finish.TheVariants.{Completed, Refused, Forgotten}
use Rattle.mqtt_world_ends.specs.declared.handshakes.fates.Heard.{Heard}
use Rattle.mqtt_world_ends.specs.declared.handshakes.fates.Heard.TheVariants.{Puback, Pubrec, Pubcomp, NewSession}
use Rattle.mqtt_world_ends.specs.declared.handshakes.shakes.Assurance.{Assurance}
use Rattle.mqtt_world_ends.specs.declared.handshakes.shakes.Assurance.TheVariants.{AtLeastOnce, ExactlyOnce}
use Rattle.mqtt_world_ends.specs.declared.handshakes.shakes.Shake.{Shake}
use Rattle.mqtt_world_ends.specs.declared.handshakes.shakes.Shake.TheVariants.{Connect, PublishOnce, PublishTwice, Pubrel}

-- ---- as the definitions have it

abbrev pub finish_of : Finish → publisher.Finish
finish_of Completed = publisher.completed
finish_of Refused = publisher.refused
finish_of Forgotten = publisher.forgotten

abbrev pub fate_of : Fate → publisher.Fate
fate_of (SentOnce identifier) = publisher.sent_1 identifier
fate_of (EndedOnce by) = publisher.ended_1 (finish_of by)
fate_of (Sent identifier) = publisher.sent identifier
fate_of (Released identifier) = publisher.released identifier
fate_of (Ended by) = publisher.ended (finish_of by)

abbrev pub fates_of : List Fate → List publisher.Fate
fates_of fates = map fate_of fates

-- ---- and back

abbrev pub finish_for : publisher.Finish → Finish
finish_for publisher.completed = Completed
finish_for publisher.refused = Refused
finish_for publisher.forgotten = Forgotten

abbrev pub fate_for : publisher.Fate → Fate
fate_for (publisher.sent_1 identifier) = SentOnce identifier
fate_for (publisher.ended_1 by) = EndedOnce (finish_for by)
fate_for (publisher.sent identifier) = Sent identifier
fate_for (publisher.released identifier) = Released identifier
fate_for (publisher.ended by) = Ended (finish_for by)

-- ---- in flight

-- the packet identifier of a message whose handshake has not ended
abbrev pub identifier_of : publisher.Fate → Option ℕ
identifier_of (publisher.sent_1 identifier) = Some identifier
identifier_of (publisher.ended_1 by) = None
identifier_of (publisher.sent identifier) = Some identifier
identifier_of (publisher.released identifier) = Some identifier
identifier_of (publisher.ended by) = None

-- ---- what is done

-- by PUBACK of success, or by PUBCOMP (4.3.2, 4.3.3)
abbrev pub by_last_packet : publisher.Finish → Bool
by_last_packet publisher.completed = true
by_last_packet publisher.refused = false
by_last_packet publisher.forgotten = false

-- the handshake of the message ended so
abbrev pub is_completed : publisher.Fate → Bool
is_completed (publisher.sent_1 identifier) = false
is_completed (publisher.ended_1 by) = by_last_packet by
is_completed (publisher.sent identifier) = false
is_completed (publisher.released identifier) = false
is_completed (publisher.ended by) = by_last_packet by

abbrev pub has_completed : Fate → Bool
has_completed fate = is_completed (fate_of fate)

-- ---- what is heard

-- what it makes of a message
abbrev pub on_heard : Heard → publisher.Fate → publisher.Fate
on_heard (Puback identifier code) = on_puback identifier code
on_heard (Pubrec identifier code) = on_pubrec identifier code
on_heard (Pubcomp identifier) = on_pubcomp identifier
on_heard NewSession = on_new_session

abbrev pub heard_by : Heard → Fate → Fate
heard_by heard fate = fate_for (on_heard heard (fate_of fate))

-- ---- what it sends

abbrev pub packet_of : Shake → publisher.FromPublisher
packet_of (Connect clean) = publisher.CONNECT clean
packet_of (PublishOnce identifier message dup) = publisher.PUBLISH_1 identifier message dup
packet_of (PublishTwice identifier message dup) = publisher.PUBLISH_2 identifier message dup
packet_of (Pubrel identifier) = publisher.PUBREL identifier

abbrev pub packets_of : List Shake → List publisher.FromPublisher
packets_of packets = map packet_of packets

abbrev pub qos_of : Assurance → publisher.Qos
qos_of AtLeastOnce = publisher.qos_1
qos_of ExactlyOnce = publisher.qos_2

-- what goes out again for the message with this number, when its session is resumed (4.4)
abbrev pub again : ℕ → publisher.Fate → Option publisher.FromPublisher
again n (publisher.sent_1 identifier) = Some (publisher.PUBLISH_1 identifier n true)
again n (publisher.ended_1 by) = None
again n (publisher.sent identifier) = Some (publisher.PUBLISH_2 identifier n true)
again n (publisher.released identifier) = Some (publisher.PUBREL identifier)
again n (publisher.ended by) = None

-- a PUBREC with this identifier is awaited (4.3.3)
abbrev pub awaits : ℕ → Fate → Bool
awaits identifier fate = is_sent identifier (fate_of fate)

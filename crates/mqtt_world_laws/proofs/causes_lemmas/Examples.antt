-- Worked steps and runs: the copies that end, each in its phase right before and with its queue's length there (MQTT 5.0,
-- 3.1.2.4, 3.1.2.11, 3.3.2.3.3, 4.3).
use Rattle.std.proofs.Common.{◌≡◌, ℕ, true, List, [], ◌∷◌, ◌++◌, length, map, Option, Some, None, refl}
use Rattle.std.specs.Prelude.{codes, replicate}
use Rattle.std.specs.Str.{is_utf8, chars}
use Rattle.std.proofs.Math.Utf8.{encode}
use Rattle.mqtt_base.specs.Values.{varint}
use Rattle.mqtt_base.specs.declared.session.Ending.{Ending}
use Rattle.mqtt_base.specs.declared.session.Ending.TheVariants.{Taken, Refused, Expired, TooLarge, SessionEnded, Dropped}
use Rattle.mqtt_base.specs.declared.session.Phase.{Phase}
use Rattle.mqtt_base.specs.declared.session.Phase.TheVariants.{Waiting, Sent, Released, Oversize}
use Rattle.mqtt_base.specs.declared.session.Qos.TheVariants.{AtLeastOnce, ExactlyOnce}
use Rattle.mqtt_props.specs.declared.table.PropName.TheVariants.{MaximumPacketSize, MessageExpiryInterval, SessionExpiryInterval}
use Rattle.mqtt_props.specs.Properties.{Prop, U32}
use Rattle.mqtt_packet.specs.declared.codec.packet.Packet.{Packet}
use Rattle.mqtt_packet.specs.declared.codec.packet.Packet.TheVariants.{Publish}
use Rattle.mqtt_flow.specs.declared.outbound.entry.Full.TheVariants.{Drop}
use Rattle.mqtt_records.specs.declared.state.session.Session.{Session}
use Rattle.mqtt_rules.specs.declared.step.Capacity.{Capacity}
use Rattle.mqtt_records.specs.messages.PassedOn.{property}
use Rattle.mqtt_rules.specs.step.Packets.{puback, pubcomp, pubrec}
use Rattle.mqtt_rules.specs.step.State.{Broker, session_at}
use Rattle.mqtt_rules.specs.step.Step.{NewLine, Input, Lost, Pump, Tick, at_moment, deeds, env_of}
use Rattle.mqtt_rules.proofs.step_lemmas.examples.Play.{blank, Event, at, first, usual, narrow, runs_with, hello, hello_with, never_expires, in_line, clean, message, sends, subscribed, topic, wants}
use Rattle.mqtt_rules.proofs.step_lemmas.examples.WorkedCopies.{subscribed_at}
use Rattle.mqtt_world_model.specs.model.World.{ask, break, connect_end, start, to_broker}
use Rattle.mqtt_world_model.proofs.model_lemmas.examples.Scripts.{turns, p1, r1, published, pumped, exchange}
use Rattle.mqtt_world_laws.specs.causes.Endings.{Asked, EndAt, ends_in, ends_over}

-- ---- what is seen of an end

-- how a copy ended: its cause, its phase right before, and its queue's length there
pub record Seen : Type 0 where
  pub by : Ending
  pub phase : Phase
  pub long : ℕ

abbrev long_of : Option Session → ℕ
long_of None = 0
long_of (Some s) = length s.queue

abbrev seen : EndAt → Seen
seen x = record { by = x.ending; phase = x.row.phase; long = long_of (session_at x.who.birth x.broker.records) }

abbrev ended : Ending → Phase → ℕ → Seen
ended by phase long = record { by = by; phase = phase; long = long }

abbrev asked_for : Capacity → Event → Broker → Asked
asked_for limits (at now call) b =
    record { call = Some call; step = record { env = env_of limits first b; deeds = deeds limits first now call b; broker = at_moment now b } }

-- the ends in the last of these steps
abbrev ends_with : Capacity → List Event → Event → List Seen
ends_with limits es e = map seen (ends_in (asked_for limits e (runs_with limits es blank)))

abbrev ends : List Event → Event → List Seen
ends es e = ends_with usual es e

-- ---- Taken and Refused, by PUBACK and by PUBREC and PUBCOMP

abbrev sent_1 : List Event
sent_1 = subscribed_at AtLeastOnce ++ at 0 (Input 2 (sends 10)) ∷ at 0 (Pump 1) ∷ []

-- PUBACK with success
pub a_puback_takes_it : ends sent_1 (at 0 (Input 1 (puback 1 0))) ≡ ended Taken (Sent 1) 1 ∷ []
unfolding varint is_utf8 chars encode
a_puback_takes_it = refl

-- with an error
pub a_puback_of_0x80_refuses_it : ends sent_1 (at 0 (Input 1 (puback 1 0x80))) ≡ ended Refused (Sent 1) 1 ∷ []
unfolding varint is_utf8 chars encode
a_puback_of_0x80_refuses_it = refl

abbrev sent_2 : List Event
sent_2 = subscribed ++ at 0 (Input 2 (sends 10)) ∷ at 0 (Pump 1) ∷ []

-- PUBREC with success
pub a_pubrec_ends_none : ends sent_2 (at 0 (Input 1 (pubrec 1 0))) ≡ []
unfolding varint is_utf8 chars encode
a_pubrec_ends_none = refl

-- with an error
pub a_pubrec_of_0x80_refuses_it : ends sent_2 (at 0 (Input 1 (pubrec 1 0x80))) ≡ ended Refused (Sent 1) 1 ∷ []
unfolding varint is_utf8 chars encode
a_pubrec_of_0x80_refuses_it = refl

-- PUBCOMP
pub a_pubcomp_takes_it : ends (sent_2 ++ at 0 (Input 1 (pubrec 1 0)) ∷ []) (at 0 (Input 1 (pubcomp 1 0))) ≡ ended Taken (Released 1 1) 1 ∷ []
unfolding varint is_utf8 chars encode
a_pubcomp_takes_it = refl

-- ---- Expired, by a pump and by a tick

abbrev five_seconds : Packet
five_seconds = Publish (record (message 10) { properties = property MessageExpiryInterval (U32 5) ∷ [] })

abbrev lapsing : List Event
lapsing = subscribed ++ at 0 (Input 2 five_seconds) ∷ []

-- a copy that is late at a pump
pub a_pump_ends_it_late : ends lapsing (at 5000 (Pump 1)) ≡ ended Expired Waiting 1 ∷ []
unfolding varint is_utf8 chars encode
a_pump_ends_it_late = refl

-- or at the clock's turn
pub a_tick_ends_it_late : ends lapsing (at 5000 Tick) ≡ ended Expired Waiting 1 ∷ []
unfolding varint is_utf8 chars encode
a_tick_ends_it_late = refl

-- and not before its time
pub no_tick_ends_it_before : ends lapsing (at 4999 Tick) ≡ []
unfolding varint is_utf8 chars encode
no_tick_ends_it_before = refl

-- ---- TooLarge: it waits, or it was sent on a line that took more

abbrev small_one : List Prop
small_one = never_expires ∷ property MaximumPacketSize (U32 64) ∷ []

abbrev large : Packet
large = Publish (record (message 10) { payload = replicate 60 33 })

abbrev takes_little : List Event
takes_little = in_line 1 (hello_with (codes "r1") small_one None) ++ at 0 (Input 1 (wants 1 topic ExactlyOnce)) ∷ in_line 2 (hello (codes "p1"))

-- a copy that is too large for its line
pub a_pump_ends_a_large_one : ends (takes_little ++ at 0 (Input 2 large) ∷ []) (at 0 (Pump 1)) ≡ ended TooLarge Waiting 1 ∷ []
unfolding varint is_utf8 chars encode
a_pump_ends_a_large_one = refl

abbrev outgrown : List Event
outgrown = subscribed ++ at 0 (Input 2 large) ∷ at 0 (Pump 1) ∷ at 0 (Lost 1) ∷ in_line 3 (hello_with (codes "r1") small_one None)

-- one that became too large in its handshake goes on
pub a_pump_releases_it : ends outgrown (at 0 (Pump 3)) ≡ []
unfolding varint is_utf8 chars encode
a_pump_releases_it = refl

-- and ends with it
pub its_pubcomp_ends_it : ends (outgrown ++ at 0 (Pump 3) ∷ []) (at 0 (Input 3 (pubcomp 1 0))) ≡ ended TooLarge (Oversize 1 1) 1 ∷ []
unfolding varint is_utf8 chars encode
its_pubcomp_ends_it = refl

-- ---- SessionEnded: by Clean Start, and by its time

abbrev waiting_one : List Event
waiting_one = subscribed ++ at 0 (Input 2 (sends 10)) ∷ at 0 (Lost 1) ∷ at 0 NewLine ∷ []

-- Clean Start
pub a_clean_start_ends_it : ends waiting_one (at 0 (Input 3 (clean (codes "r1")))) ≡ ended SessionEnded Waiting 1 ∷ []
unfolding varint is_utf8 chars encode
a_clean_start_ends_it = refl

abbrev short_stay : List Event
short_stay =
    in_line 1 (hello_with (codes "r1") (property SessionExpiryInterval (U32 5) ∷ []) None) ++ at 0 (Input 1 (wants 1 topic ExactlyOnce)) ∷ in_line 2 (hello (codes "p1"))
    ++ at 0 (Input 2 (sends 10)) ∷ at 0 (Lost 1) ∷ []

-- the end of a session's time
pub its_time_ends_it : ends short_stay (at 5000 Tick) ≡ ended SessionEnded Waiting 1 ∷ []
unfolding varint is_utf8 chars encode
its_time_ends_it = refl

-- ---- Dropped: the queue is full, and the oldest that waits gives way

-- a full queue that drops
pub a_full_queue_drops_the_oldest : ends_with (narrow Drop 2) (subscribed ++ at 0 (Input 2 (sends 10)) ∷ at 0 (Input 2 (sends 11)) ∷ []) (at 0 (Input 2 (sends 12))) ≡ ended Dropped Waiting 2 ∷ []
unfolding varint is_utf8 chars encode
a_full_queue_drops_the_oldest = refl

-- one with room
pub one_with_room_drops_none : ends_with (narrow Drop 2) (subscribed ++ at 0 (Input 2 (sends 10)) ∷ []) (at 0 (Input 2 (sends 11))) ≡ []
unfolding varint is_utf8 chars encode
one_with_room_drops_none = refl

-- ---- runs of the world

-- the same of a run
pub a_run_takes_a_copy : map seen (ends_over usual (turns (pumped ++ exchange r1 ++ ask (to_broker r1) ∷ [])) start) ≡ ended Taken (Released 1 1) 1 ∷ []
unfolding varint is_utf8 chars encode
a_run_takes_a_copy = refl

-- and of a session's end in it
pub a_run_ends_a_session : map seen (ends_over usual (turns (published ++ ask (to_broker p1) ∷ ask (break r1) ∷ connect_end r1 true ∷ ask (to_broker r1) ∷ [])) start) ≡ ended SessionEnded Waiting 1 ∷ []
unfolding varint is_utf8 chars encode
a_run_ends_a_session = refl

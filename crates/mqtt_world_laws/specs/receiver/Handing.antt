-- What a receiver has read of its copies, if what it sees of the world is a run of its hop; and its own doings (MQTT
-- 5.0, 4.3.2, 4.3.3, 4.6).
use Rattle.std.specs.Prelude.{◌≡◌, ℕ, suc, Bool, false, List, [], ◌∷◌, map, Some, None}
use Rattle.std.specs.Prelude.{slice_get, option_map}
use Rattle.std.specs.List.{AllByRecursion}
use Rattle.mqtt_base.specs.declared.session.CopyId.{CopyId}
use Rattle.mqtt_flow.specs.outbound.OutboundCourse.{carried_by}
use Rattle.mqtt_flow.specs.outbound.OutboundWorld.{Lot, Event as HopEvent, run, start}
use Rattle.mqtt_flow.specs.outbound.Receiver.{Answer, connect}
use Rattle.mqtt_world_model.specs.model.Ends.{answers, Entry, Receiver, wire_back}
use Rattle.mqtt_world_model.specs.model.Hops.{IsOnly, MayConnect}
use Rattle.mqtt_world_model.specs.model.Lines.{is_one_of, joined, left}
use Rattle.mqtt_world_model.specs.model.World.{receiver_told, taken_up}
use Rattle.mqtt_records.specs.state.Session.{copy_place}
use Rattle.mqtt_records.specs.declared.state.session.Session.{Session}
use Rattle.mqtt_records.specs.lists.Order.{IsAscending}
use Rattle.mqtt_rules.specs.step.State.{Line as BrokerLine, Broker, MemberChoice, line_at, line_of, session_at}
use Rattle.mqtt_rules.specs.step.State.{session_named}
use Rattle.mqtt_rules.specs.step.Closing.{never}
use Rattle.mqtt_rules.specs.step.Step.{Call, Input, Lost, NewLine, stepped, told}
use Rattle.mqtt_rules.specs.declared.step.Capacity.{Capacity}
use Rattle.mqtt_world_laws.specs.receiver.Seen.{AreQueued, Numbering, seen}
use Rattle.mqtt_world_laws.specs.receiver.Tags.{AreNumbered, AreTagged, id_of}

-- ---- runs of a hop

-- the receiver, with this Maximum Packet Size on each of its lines, sees what some events of its hop make, and the
-- copies that stand are those of its session's queue
pub record IsRun (number : Numbering) (largest : ℕ) (copies : List Lot) (r : Receiver) (b : Broker) : Type 0 where
  pub events : List HopEvent
  pub seen_is : seen number copies r b ≡ run largest events start
  pub queue_is : AreQueued copies (session_named r.client b.records) b
  pub numbered : AreNumbered number (map id_of copies)
  pub tagged : AreTagged number (map id_of copies) r

-- ---- what it has read

-- what was read is a copy that entered, with its topic and payload
abbrev pub IsOf : Numbering → List Lot → Entry → Type 0
IsOf number copies e =
    (copy : CopyId)
    × (e.copy ≡ Some copy)
    × (option_map carried_by (slice_get copies (number copy)) ≡ Some e.body)

-- ---- its own doings

-- it joins by a new line
abbrev pub receiver_joined : Capacity → MemberChoice → ℕ → Bool → Receiver → Broker → Receiver
receiver_joined limits choice now clean r b =
    let q = receiver_told (stepped limits choice now NewLine b) (told limits choice now NewLine b) r in
    record q { line = joined (answers (connect clean)) (suc b.given) clean q.line }

-- a CONNECT for which there is a line, by a receiver that has none, which carries a Clean Start through
abbrev pub MayComeBack : Capacity → Bool → Receiver → Broker → Type 0
MayComeBack limits clean r b = MayConnect limits clean r.line b

-- ---- a step in which the first packet of its line was read

abbrev pub receiver_after : Capacity → MemberChoice → ℕ → Call → Receiver → Broker → Receiver
receiver_after limits choice now call r b =
    let q = record r { line = taken_up r.line } in
    receiver_told (stepped limits choice now call b) (told limits choice now call b) q

-- a session is connected on no line but the one of this number
abbrev pub IsAloneOn : ℕ → ℕ → BrokerLine → Type 0
IsAloneOn birth n l = l.session ≡ Some birth → l.number ≡ n

-- the receiver's line is connected to its session, which is the only one of its name, has no Will and doesn't expire
pub record IsListening (r : Receiver) (l : BrokerLine) (s : Session) (b : Broker) : Type 0 where
  pub number : r.line.number ≡ Some l.number
  pub line : line_at l.number b ≡ Some l
  pub connected : l.session ≡ Some s.birth
  pub its_line : line_of s.birth b ≡ Some l
  pub alone : AllByRecursion (IsAloneOn s.birth l.number) b.lines
  pub session : session_at s.birth b.records ≡ Some s
  pub client : s.client ≡ r.client
  pub only : IsOnly r.client s.birth b.records
  pub no_will : s.will ≡ None
  pub no_end : s.expiry ≡ never
  pub places : IsAscending copy_place s.queue
  -- the line that it gave up is another one
  pub apart : is_one_of r.line.old_number (l.number ∷ []) ≡ false

-- what it sees after the step is a run of its hop again, with the same copies
pub record RunsOn (number : Numbering) (largest : ℕ) (copies : List Lot) (r : Receiver) (b : Broker) : Type 0 where
  pub after : List Lot
  pub same : map id_of after ≡ map id_of copies
  pub run_is : IsRun number largest after r b

abbrev pub reads_answer : Capacity → MemberChoice → ℕ → ℕ → Answer → Receiver → Broker → Receiver
reads_answer limits choice now n a r b =
    receiver_after limits choice now (Input n (wire_back r.client r.window r.aliases (answers a))) r b

abbrev pub after_answer : Capacity → MemberChoice → ℕ → ℕ → Answer → Receiver → Broker → Broker
after_answer limits choice now n a r b = stepped limits choice now (Input n (wire_back r.client r.window r.aliases (answers a))) b

-- ---- its line is lost, and it leaves it

abbrev pub receiver_lost : Capacity → MemberChoice → ℕ → ℕ → Receiver → Broker → Receiver
receiver_lost limits choice now n r b =
    let q = receiver_told (stepped limits choice now (Lost n) b) (told limits choice now (Lost n) b) r in
    record q { line = left q.line }

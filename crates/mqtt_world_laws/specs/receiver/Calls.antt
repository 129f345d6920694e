-- Calls of the broker that a receiver sees: sending what waits for it, reading what it left on the line that it gave up, and
-- its CONNECT (MQTT 5.0, 3.1.2.4, 4.4, 4.6, 4.9).
use Rattle.std.specs.Prelude.{◌≡◌, ◌≤◌, ℕ, suc, true, false, List, [], ◌∷◌, filter_map, length, nat_eq, nat_lt, Some, None}
use Rattle.std.specs.List.{AllByRecursion, starts_with}
use Rattle.mqtt_base.specs.declared.limits.TheConstants.{CLIENT_LIMIT, SESSION_LIMIT}
use Rattle.mqtt_flow.specs.outbound.Receiver.{Answer, spared}
use Rattle.mqtt_world_model.specs.model.Ends.{Receiver, answers, wire_back}
use Rattle.mqtt_world_model.specs.model.Hops.{IsKept, IsTaken, lines_left}
use Rattle.mqtt_world_model.specs.model.Lines.{is_one_of, unless_closed}
use Rattle.mqtt_world_model.specs.model.Seen.{is_linked}
use Rattle.mqtt_world_model.specs.model.World.{receiver_told, taken_old}
use Rattle.mqtt_records.specs.state.Session.{auto}
use Rattle.mqtt_records.specs.declared.state.session.Session.{Session}
use Rattle.mqtt_rules.specs.step.Numbers.{HasGivenBirths}
use Rattle.mqtt_rules.specs.step.State.{Line as BrokerLine, Broker, MemberChoice, is_of, line_at, line_of, session_named}
use Rattle.mqtt_rules.specs.step.Step.{Call, Input, stepped, told}
use Rattle.mqtt_rules.specs.declared.step.Capacity.{Capacity}
use Rattle.mqtt_topic.specs.names.Names.{is_empty}
use Rattle.mqtt_world_laws.specs.receiver.Handing.{IsListening}
use Rattle.mqtt_world_laws.specs.receiver.Seen.{answered}

-- the receiver after a call that takes nothing off its lines
abbrev pub receiver_called : Capacity → MemberChoice → ℕ → Call → Receiver → Broker → Receiver
receiver_called limits choice now call r b =
    receiver_told (stepped limits choice now call b) (told limits choice now call b) r

-- ---- the line that it gave up

-- the receiver as if it had kept that line
abbrev pub turned_back : Receiver → Receiver
turned_back r =
    let l = r.line in
    record r { line = record l { number = l.old_number; up = l.old; old_number = l.number; old = l.up } }

-- its session is connected there
abbrev pub IsLingering : Receiver → BrokerLine → Session → Broker → Type 0
IsLingering r l s b = IsListening (turned_back r) l s b

-- the receiver after the first packet of that line was read
abbrev pub reads_old_answer : Capacity → MemberChoice → ℕ → ℕ → Answer → Receiver → Broker → Receiver
reads_old_answer limits choice now n a r b =
    receiver_called limits choice now (Input n (wire_back r.client r.window r.aliases (answers a)))
    (record r { line = taken_old r.line }) b

-- ---- its CONNECT

-- a session is connected on none but these lines
abbrev pub IsOnlyAt : List ℕ → ℕ → BrokerLine → Type 0
IsOnlyAt ns birth l = l.session ≡ Some birth → is_one_of (Some l.number) ns ≡ true

-- its line waits for CONNECT, and its session stands, connected on at most one other line; what is under way on the line
-- that it gave up is a CONNECT, or the session is connected there, or it is nothing
pub record IsResuming (r : Receiver) (l : BrokerLine) (s : Session) (b : Broker) : Type 0 where
  pub number : r.line.number ≡ Some l.number
  pub line : line_at l.number b ≡ Some l
  pub waits : l.session ≡ None
  pub fresh : l.went ≡ []
  pub kept : IsKept r.client s b
  pub taken : IsTaken (line_of s.birth b) s.birth l.number
  pub alone : AllByRecursion (IsOnlyAt (lines_left (line_of s.birth b)) s.birth) b.lines
  pub old : filter_map answered (unless_closed (is_one_of r.line.old_number (lines_left (line_of s.birth b))) r.line.old)
      ≡ spared (filter_map answered r.line.old)

-- no line has a session of this birth
abbrev pub IsUnused : ℕ → BrokerLine → Type 0
IsUnused birth l = is_of l.session birth ≡ false

-- its line waits for CONNECT, and no session of its name stands; what is under way on the line that it gave up is a CONNECT,
-- or it is nothing
pub record IsBeginning (limits : Capacity) (r : Receiver) (l : BrokerLine) (b : Broker) : Type 0 where
  pub number : r.line.number ≡ Some l.number
  pub line : line_at l.number b ≡ Some l
  pub waits : l.session ≡ None
  pub fresh : l.went ≡ []
  pub none : session_named r.client b.records ≡ None
  pub births : HasGivenBirths b.records
  pub unused : AllByRecursion (IsUnused (suc b.records.births)) b.lines
  pub within : limits.sessions ≤ SESSION_LIMIT
  pub some : is_empty r.client ≡ false
  pub short : nat_lt CLIENT_LIMIT (length r.client) ≡ false
  pub plain : starts_with nat_eq r.client auto ≡ false
  pub old : filter_map answered r.line.old ≡ spared (filter_map answered r.line.old)

-- its line waits for CONNECT with Clean Start while its session stands, and there are no more sessions than the limit
pub record IsRenewing (limits : Capacity) (r : Receiver) (l : BrokerLine) (s : Session) (b : Broker) : Type 0 where
  pub resuming : IsResuming r l s b
  pub births : HasGivenBirths b.records
  pub unused : AllByRecursion (IsUnused (suc b.records.births)) b.lines
  pub within : limits.sessions ≤ SESSION_LIMIT
  pub room : length b.records.sessions ≤ limits.sessions
  pub some : is_empty r.client ≡ false

-- the line that it gave up waits for CONNECT, and its session stands, connected on the receiver's line if that is linked, or on
-- at most one other
pub record IsLate (r : Receiver) (l : BrokerLine) (s : Session) (b : Broker) : Type 0 where
  pub number : r.line.old_number ≡ Some l.number
  pub line : line_at l.number b ≡ Some l
  pub waits : l.session ≡ None
  pub fresh : l.went ≡ []
  pub kept : IsKept r.client s b
  pub taken : IsTaken (line_of s.birth b) s.birth l.number
  pub alone : AllByRecursion (IsOnlyAt (lines_left (line_of s.birth b)) s.birth) b.lines
  -- the receiver's line is another one
  pub apart : is_one_of r.line.number (l.number ∷ []) ≡ false
  pub linked : is_linked r.line.number b ≡ is_one_of r.line.number (lines_left (line_of s.birth b))

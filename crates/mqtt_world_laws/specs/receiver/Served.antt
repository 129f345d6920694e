-- What stays of a receiver's session, and of the lines that are its own, while the broker serves others (MQTT 5.0, 3.1.4,
-- 3.3.4, 4.1).
use Rattle.std.specs.Prelude.{◌≡◌, ◌≤◌, ◌<◌, ◌++◌, ℕ, ⊤, true, false, List, find, map, Option, Some}
use Rattle.std.specs.List.{AllByRecursion}
use Rattle.mqtt_base.specs.declared.limits.TheConstants.{QUEUE_LIMIT}
use Rattle.mqtt_base.specs.declared.session.CopyId.{CopyId}
use Rattle.mqtt_flow.specs.outbound.OutboundWorld.{Lot}
use Rattle.mqtt_world_model.specs.model.Ends.{Receiver}
use Rattle.mqtt_world_model.specs.model.Hops.{IsOthers, IsOurs}
use Rattle.mqtt_world_model.specs.model.Lines.{is_one_of}
use Rattle.mqtt_world_model.specs.model.Seats.{IsIdle}
use Rattle.mqtt_records.specs.state.Records.{subscribe_in}
use Rattle.mqtt_records.specs.declared.state.session.Session.{Session}
use Rattle.mqtt_records.specs.lists.Distinct.{AllDiffer}
use Rattle.mqtt_rules.specs.step.Laws.{IsOrdered}
use Rattle.mqtt_rules.specs.step.State.{Line as BrokerLine, Broker}
use Rattle.mqtt_rules.specs.step.Step.{Call, NewLine, Input, BadInput, Lost, Pump, Tick}
use Rattle.mqtt_rules.specs.step.Tick.{is_silent}
use Rattle.mqtt_rules.specs.declared.step.Capacity.{Capacity}
use Rattle.mqtt_world_laws.specs.receiver.Entering.{IsReceiving}
use Rattle.mqtt_world_laws.specs.receiver.Handing.{IsRun}
use Rattle.mqtt_world_laws.specs.receiver.Seen.{Numbering}
use Rattle.mqtt_world_laws.specs.receiver.Tags.{AreNumbered, id_of}

-- ---- what is its own

-- of a line's number and session: this session is connected on none but these lines, and no other is connected there
pub record AboutOwn (ns : List ℕ) (birth number : ℕ) (session : Option ℕ) : Type 0 where
  pub alone : session ≡ Some birth → is_one_of (Some number) ns ≡ true
  pub theirs : is_one_of (Some number) ns ≡ true → (other : ℕ) → session ≡ Some other → other ≡ birth

abbrev pub IsOwnLine : List ℕ → ℕ → BrokerLine → Type 0
IsOwnLine ns birth l = AboutOwn ns birth l.number l.session

-- the session of this birth, which has no Will and doesn't expire, is the only one of this client, and these lines are its
-- own, or wait for CONNECT; its birth and their numbers were given
pub record IsServed (client : List ℕ) (birth : ℕ) (ns : List ℕ) (b : Broker) : Type 0 where
  pub sessions : AllByRecursion (IsOurs client birth) b.records.sessions
  pub lines : AllByRecursion (IsOwnLine ns birth) b.lines
  pub births : birth ≤ b.records.births
  pub given : (n : ℕ) → is_one_of (Some n) ns ≡ true → n ≤ b.given

-- the receiver's line and the one that it gave up, those that it has, are among these
pub record HasLines (ns : List ℕ) (r : Receiver) : Type 0 where
  pub own : (n : ℕ) → r.line.number ≡ Some n → is_one_of (Some n) ns ≡ true
  pub old : (n : ℕ) → r.line.old_number ≡ Some n → is_one_of (Some n) ns ≡ true

-- of the broker: tables are in order, and it allows a queue no more copies than they hold; queues that stand may be longer
-- than it allows
pub record IsTidy (limits : Capacity) (b : Broker) : Type 0 where
  pub ordered : IsOrdered b.records
  pub within : limits.queue ≤ QUEUE_LIMIT

-- ---- the calls of others

-- on none of these lines, and no CONNECT of this client; a tick closes none of these lines as silent
abbrev pub IsCallOfOthers : List ℕ → List ℕ → Call → Broker → Type 0
IsCallOfOthers client ns NewLine b = ⊤
IsCallOfOthers client ns (Input n packet) b = (is_one_of (Some n) ns ≡ false) × IsOthers client packet
IsCallOfOthers client ns (BadInput n is_connect code) b = is_one_of (Some n) ns ≡ false
IsCallOfOthers client ns (Lost n) b = is_one_of (Some n) ns ≡ false
IsCallOfOthers client ns (Pump n) b = is_one_of (Some n) ns ≡ false
IsCallOfOthers client ns Tick b =
    (l : BrokerLine) → find (λ (x : BrokerLine). is_silent b.now x.session x) b.lines ≡ Some l
    → is_one_of (Some l.number) ns ≡ false

-- what the receiver sees is a run of its hop, with copies of these identities
pub record RunsWithAll (number : Numbering) (largest : ℕ) (ids : List CopyId) (birth : ℕ) (r : Receiver) (b : Broker)
    : Type 0 where
  pub after : List Lot
  pub same : map id_of after ≡ ids
  pub run_is : IsRun number largest after r b
  pub session : Session
  pub birth_is : session.birth ≡ birth
  pub receiving : IsReceiving r session b

-- so it is, however the copies are numbered by their places
abbrev pub RunsFor : ℕ → List CopyId → ℕ → Receiver → Broker → Type 0
RunsFor largest ids birth r b = (number : Numbering) → AreNumbered number ids → RunsWithAll number largest ids birth r b

-- for this session, of a publication that was accepted after the one with the number before, and up to that of the number last;
-- and so for no filter that was granted
pub record IsNewCopy (birth before last : ℕ) (id : CopyId) : Type 0 where
  pub birth_is : id.birth ≡ birth
  pub above : before < id.publication
  pub within : id.publication ≤ last
  pub cause_is : subscribe_in id.cause ≡ 0

-- some copies more have entered, or none, behind those that entered before, no two the same, each of a publication that was
-- accepted meanwhile; its session and its lines are its own as before
pub record GoesOn (largest : ℕ) (ids : List CopyId) (birth : ℕ) (ns : List ℕ) (before : ℕ) (r : Receiver) (b : Broker)
    : Type 0 where
  pub more : List CopyId
  pub new : AllByRecursion (IsNewCopy birth before b.records.publications) more
  pub differ : AllDiffer more
  pub runs : RunsFor largest (ids ++ more) birth r b
  pub served : IsServed r.client birth ns b

-- ---- a line on which CONNECT is late

-- nobody is connected on a line of this number, and it is the first that a tick finds silent
pub record IsOverdue (n : ℕ) (b : Broker) : Type 0 where
  pub line : BrokerLine
  pub silent : find (λ (x : BrokerLine). is_silent b.now x.session x) b.lines ≡ Some line
  pub number : line.number ≡ n
  pub idle : IsIdle n b

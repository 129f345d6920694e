-- Receiver and broker in step: what the receiver sees is a run of its hop, and its session and its lines are its own, so
-- that one call or doing can be put after another (MQTT 5.0, 3.1.2.4, 3.1.4, 4.4).
use Rattle.std.specs.Prelude.{◌≡◌, ◌≤◌, ◌++◌, ℕ, true, List, map, None, Some}
use Rattle.std.specs.List.{AllByRecursion}
use Rattle.mqtt_base.specs.declared.session.Cause.TheVariants.{Retained}
use Rattle.mqtt_base.specs.declared.session.CopyId.{CopyId}
use Rattle.mqtt_flow.specs.outbound.OutboundWorld.{Lot}
use Rattle.mqtt_world_model.specs.model.Ends.{Receiver}
use Rattle.mqtt_world_model.specs.model.Lines.{is_one_of}
use Rattle.mqtt_records.specs.declared.state.session.Session.{Session}
use Rattle.mqtt_records.specs.lists.Distinct.{AllDiffer}
use Rattle.mqtt_rules.specs.step.State.{Line as BrokerLine, Broker}
use Rattle.mqtt_world_laws.specs.receiver.Handing.{IsListening, IsRun}
use Rattle.mqtt_world_laws.specs.receiver.Seen.{Numbering}
use Rattle.mqtt_world_laws.specs.receiver.Served.{HasLines, IsNewCopy, IsServed, RunsFor}
use Rattle.mqtt_world_laws.specs.receiver.Tags.{AreNumbered, id_of}

-- ---- its session stands

-- it sees a run of its hop with copies of these identities; the session of this birth is its own, and so are these lines,
-- with its line and the one that it gave up among them
pub record IsInStep (largest : ℕ) (ids : List CopyId) (birth : ℕ) (ns : List ℕ) (r : Receiver) (b : Broker) : Type 0 where
  pub runs : RunsFor largest ids birth r b
  pub served : IsServed r.client birth ns b
  pub lines : HasLines ns r

-- some copies more have entered, or none, behind those that entered before, no two the same, each of a publication that
-- was accepted after the one with the number before; with them the two are in step
pub record StepsOn (largest : ℕ) (ids : List CopyId) (birth : ℕ) (ns : List ℕ) (before : ℕ) (r : Receiver) (b : Broker)
    : Type 0 where
  pub more : List CopyId
  pub new : AllByRecursion (IsNewCopy birth before b.records.publications) more
  pub differ : AllDiffer more
  pub in_step : IsInStep largest (ids ++ more) birth ns r b

-- of a retained message, for this session, brought by the filter that was granted as the one with this number (3.8.4)
pub record IsBroughtCopy (birth number : ℕ) (id : CopyId) : Type 0 where
  pub birth_is : id.birth ≡ birth
  pub cause_is : id.cause ≡ Retained number

-- some such copies have entered behind those that entered before, or none; with them the two are in step
pub record Subscribed (largest : ℕ) (ids : List CopyId) (birth : ℕ) (ns : List ℕ) (number : ℕ) (r : Receiver) (b : Broker)
    : Type 0 where
  pub more : List CopyId
  pub new : AllByRecursion (IsBroughtCopy birth number) more
  pub in_step : IsInStep largest (ids ++ more) birth ns r b

-- the session of this birth is connected on this line, its own
pub record Listens (r : Receiver) (l : BrokerLine) (birth : ℕ) (b : Broker) : Type 0 where
  pub session : Session
  pub birth_is : session.birth ≡ birth
  pub listening : IsListening r l session b

-- ---- before its session begins

-- it sees a run of its hop, with copies of these identities
pub record RunsAlone (number : Numbering) (largest : ℕ) (ids : List CopyId) (r : Receiver) (b : Broker) : Type 0 where
  pub after : List Lot
  pub same : map id_of after ≡ ids
  pub run_is : IsRun number largest after r b

-- nobody is connected on a line of these numbers
abbrev pub IsFreeLine : List ℕ → BrokerLine → Type 0
IsFreeLine ns l = is_one_of (Some l.number) ns ≡ true → l.session ≡ None

-- so it sees, however the copies are numbered by their places; nobody is connected on these lines, whose numbers were
-- given, with its line and the one that it gave up among them
pub record IsAwaiting (largest : ℕ) (ids : List CopyId) (ns : List ℕ) (r : Receiver) (b : Broker) : Type 0 where
  pub runs : (number : Numbering) → AreNumbered number ids → RunsAlone number largest ids r b
  pub free : AllByRecursion (IsFreeLine ns) b.lines
  pub given : (n : ℕ) → is_one_of (Some n) ns ≡ true → n ≤ b.given
  pub lines : HasLines ns r

-- A drain of the world that begins while the receiver's CONNECT is under way: in its first round the CONNECT is read, and the
-- session is resumed, or renewed by Clean Start (MQTT 5.0, 3.1.2.4, 3.1.4, 4.4).
use Rattle.std.specs.Prelude.{◌≡◌, ℕ, Bool, true, false, List, [], ◌∷◌, Some, None}
use Rattle.mqtt_base.specs.declared.session.CopyId.{CopyId}
use Rattle.mqtt_flow.specs.outbound.OutboundWorld.{Lot}
use Rattle.mqtt_flow.specs.outbound.Receiver.{connect}
use Rattle.mqtt_world_model.specs.model.Ends.{Receiver, answers, wire_back}
use Rattle.mqtt_world_model.specs.model.Lines.{is_one_of}
use Rattle.mqtt_world_model.specs.model.World.{World, publisher_named, receiver_named}
use Rattle.mqtt_records.specs.declared.state.session.Session.{Session}
use Rattle.mqtt_rules.specs.step.Flight.{HasDistinctIdentifiers}
use Rattle.mqtt_rules.specs.step.Laws.{AreWithin, IsOrdered}
use Rattle.mqtt_rules.specs.step.State.{Line as BrokerLine, MemberChoice, session_named}
use Rattle.mqtt_rules.specs.step.Step.{Input, is_step_spent}
use Rattle.mqtt_rules.specs.declared.step.Capacity.{Capacity}
use Rattle.mqtt_rules.specs.whole.Whole.{AreNoLarger}
use Rattle.mqtt_world_laws.specs.acceptance.Fair.{IsSteady}
use Rattle.mqtt_world_laws.specs.receiver.Calls.{IsRenewing, IsResuming}
use Rattle.mqtt_world_laws.specs.receiver.Handing.{IsRun}
use Rattle.mqtt_world_laws.specs.receiver.Own.{IsInStep}
use Rattle.mqtt_world_laws.specs.receiver.Seen.{Numbering}
use Rattle.mqtt_world_laws.specs.receiver.WorldRounds.{MayDrain}

-- the Maximum Packet Size on its line, since its CONNECT gives none (3.1.2.11.4)
abbrev pub any_size : ℕ
any_size = 0xffffffff

-- it is the receiver of this name, which no publisher has; its CONNECT is all that is under way from it, and nothing is under way
-- to it; lines and tables are in order, what its session has queued fits with whole topics, and reading the CONNECT spends no
-- number
pub record IsJoining (limits : Capacity) (choice : MemberChoice) (clean : Bool) (client : List ℕ) (r : Receiver) (l : BrokerLine)
    (w : World) : Type 0 where
  pub named : receiver_named client w ≡ Some r
  pub alone : publisher_named client w ≡ None
  pub up : r.line.up ≡ answers (connect clean) ∷ []
  pub down : r.line.down ≡ []
  -- the line that it gave up is another one
  pub apart : is_one_of r.line.old_number (l.number ∷ []) ≡ false
  pub within : AreWithin limits
  pub steady : IsSteady w.broker
  pub ordered : IsOrdered w.broker.records
  pub distinct : HasDistinctIdentifiers w.broker.records
  pub fits : (s : Session) → session_named client w.broker.records ≡ Some s → AreNoLarger any_size s.queue
  pub unspent :
      is_step_spent limits choice w.now (Input l.number (wire_back r.client r.window r.aliases (answers (connect clean)))) w.broker ≡ false

-- the two are in step, and its session stands, connected on another line or on none: the CONNECT resumes it
pub record MayResume (limits : Capacity) (choice : MemberChoice) (ids : List CopyId) (birth : ℕ) (ns : List ℕ) (client : List ℕ)
    (r : Receiver) (l : BrokerLine) (s : Session) (w : World) : Type 0 where
  pub joining : IsJoining limits choice false client r l w
  pub in_step : IsInStep any_size ids birth ns r w.broker
  pub resuming : IsResuming r l s w.broker

-- the same with Clean Start: the session ends, and a new one begins
pub record MayRenew (limits : Capacity) (choice : MemberChoice) (ids : List CopyId) (birth : ℕ) (ns : List ℕ) (client : List ℕ)
    (r : Receiver) (l : BrokerLine) (s : Session) (w : World) : Type 0 where
  pub joining : IsJoining limits choice true client r l w
  pub in_step : IsInStep any_size ids birth ns r w.broker
  pub renewing : IsRenewing limits r l s w.broker

-- it may be drained, and these are its copies
pub record DrainsFrom (number : Numbering) (window : ℕ) (ids : List CopyId) (birth : ℕ) (ns : List ℕ) (client : List ℕ)
    (copies : List Lot) (w : World) : Type 0 where
  pub receiver : Receiver
  pub may : MayDrain any_size window ids birth ns client receiver w
  pub run_is : IsRun number any_size copies receiver w.broker

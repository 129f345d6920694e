-- When a copy may enter the queue of a receiver's session, and what it makes of the hop (MQTT 5.0, 3.3.4, 4.6).
use Rattle.std.specs.Prelude.{◌≡◌, ◌≤◌, ◌++◌, ℕ, ⊤, true, List, [], ◌∷◌, map, Option, Some, None, slice_get}
use Rattle.std.specs.List.{AllByRecursion}
use Rattle.mqtt_base.specs.declared.limits.TheConstants.{QUEUE_LIMIT}
use Rattle.mqtt_base.specs.declared.session.CopyId.{CopyId}
use Rattle.mqtt_base.specs.declared.session.Ending.TheVariants.{Dropped}
use Rattle.mqtt_flow.specs.outbound.Outbound.{has_room}
use Rattle.mqtt_flow.specs.outbound.OutboundWorld.{Lot, is_granted, past, standing}
use Rattle.mqtt_world_model.specs.model.Ends.{Receiver}
use Rattle.mqtt_world_model.specs.model.Hops.{IsOnly}
use Rattle.mqtt_records.specs.messages.Queue.{CopyRow}
use Rattle.mqtt_records.specs.declared.messages.message.MessageCopy.{MessageCopy}
use Rattle.mqtt_records.specs.state.Session.{copy_place}
use Rattle.mqtt_records.specs.declared.state.session.Session.{Session}
use Rattle.mqtt_records.specs.lists.Order.{has_row}
use Rattle.mqtt_rules.specs.step.Outbound.{queue_limits, since}
use Rattle.mqtt_rules.specs.step.State.{Broker, Env, queue_on, session_at}
use Rattle.mqtt_world_laws.specs.receiver.Handing.{IsRun, RunsOn}
use Rattle.mqtt_world_laws.specs.receiver.Seen.{Numbering, went_in}
use Rattle.mqtt_world_laws.specs.receiver.Tags.{id_of}

-- what went out on a line are copies that stand
abbrev pub AreKnown : List CopyRow → Option (List ℕ) → Type 0
AreKnown queue None = ⊤
AreKnown queue (Some went) = AllByRecursion (λ (place : ℕ). has_row copy_place place queue ≡ true) went

-- the session is the only one of the receiver's name, connected or not
pub record IsReceiving (r : Receiver) (s : Session) (b : Broker) : Type 0 where
  pub session : session_at s.birth b.records ≡ Some s
  pub client : s.client ≡ r.client
  pub only : IsOnly r.client s.birth b.records
  pub known : AreKnown s.queue (went_in s.birth b)

-- one of its name stands so
pub record Receives (r : Receiver) (b : Broker) : Type 0 where
  pub session : Session
  pub receiving : IsReceiving r session b

-- a copy of QoS 1 or 2, for which the queue has room
pub record MayEnter (env : Env) (copy : MessageCopy) (s : Session) : Type 0 where
  pub granted : is_granted copy.qos ≡ true
  pub room : has_room (queue_limits env) (since env s) (queue_on [] s) ≡ true
  pub within : env.limits.queue ≤ QUEUE_LIMIT

-- a copy that stood stands, or was dropped to make way; one that has ended has ended for the same cause
abbrev pub MakesWay : Option Lot → Option Lot → Type 0
MakesWay None later = ⊤
MakesWay (Some (standing e m)) None = ⊥
MakesWay (Some (standing e m)) (Some (standing f k)) = f.copy ≡ e.copy
MakesWay (Some (standing e m)) (Some (past ending f k)) = ending ≡ Dropped
MakesWay (Some (past ending e m)) None = ⊥
MakesWay (Some (past ending e m)) (Some (standing f k)) = ⊥
MakesWay (Some (past ending e m)) (Some (past other f k)) = other ≡ ending

-- what it sees after the deeds is a run of its hop again, with this copy behind the others; and so its session goes on
pub record RunsWith (number : Numbering) (largest : ℕ) (copies : List Lot) (id : CopyId) (r : Receiver) (b : Broker)
    : Type 0 where
  pub after : List Lot
  pub same : map id_of after ≡ map id_of copies ++ id ∷ []
  pub way : (n : ℕ) → MakesWay (slice_get copies n) (slice_get after n)
  pub run_is : IsRun number largest after r b
  pub session : Session
  pub receiving : IsReceiving r session b

-- the same with no copy more
pub record RunsStill (number : Numbering) (largest : ℕ) (copies : List Lot) (r : Receiver) (b : Broker) : Type 0 where
  pub runs : RunsOn number largest copies r b
  pub session : Session
  pub receiving : IsReceiving r session b

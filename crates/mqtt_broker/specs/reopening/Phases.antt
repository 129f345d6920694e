-- Phases of queued copies by their QoS, and orders of release (MQTT 5.0, 2.2.1, 4.3, 4.6).
use Rattle.std.specs.Prelude.{◌≤◌, filter_map}
use Rattle.std.specs.List.{AllByRecursion}
use Rattle.mqtt_base.specs.declared.session.Phase.{Phase}
use Rattle.mqtt_base.specs.declared.session.Phase.TheVariants.{Waiting, Sent, Released, Oversize}
use Rattle.mqtt_base.specs.declared.session.Qos.{Qos}
use Rattle.mqtt_base.specs.declared.session.Qos.TheVariants.{AtMostOnce, AtLeastOnce, ExactlyOnce}
use Rattle.mqtt_keep.specs.lawful.Lawful.{order_in}
use Rattle.mqtt_records.specs.messages.Queue.{CopyRow}
use Rattle.mqtt_records.specs.declared.state.records.Records.{Records}
use Rattle.mqtt_records.specs.declared.state.session.Session.{Session}
use Rattle.mqtt_records.specs.lists.Distinct.{AllDiffer}

-- a packet identifier from 1; an order of release from 1, for a copy of QoS 2 alone
abbrev pub IsPhaseOf : Qos → Phase → Type 0
IsPhaseOf AtMostOnce phase = Unit {0}
IsPhaseOf AtLeastOnce Waiting = Unit {0}
IsPhaseOf AtLeastOnce (Sent identifier) = 1 ≤ identifier
IsPhaseOf AtLeastOnce (Released identifier order) = ⊥
IsPhaseOf AtLeastOnce (Oversize identifier order) = ⊥
IsPhaseOf ExactlyOnce Waiting = Unit {0}
IsPhaseOf ExactlyOnce (Sent identifier) = 1 ≤ identifier
IsPhaseOf ExactlyOnce (Released identifier order) = (1 ≤ identifier) × (1 ≤ order)
IsPhaseOf ExactlyOnce (Oversize identifier order) = (1 ≤ identifier) × (1 ≤ order)

abbrev pub HasItsPhase : CopyRow → Type 0
HasItsPhase row = IsPhaseOf row.copy.qos row.phase

-- each copy in a session's queue has such a phase, and no two have the same order of release
pub record HasPhases (s : Session) : Type 0 where
  pub each : AllByRecursion HasItsPhase s.queue
  pub orders : AllDiffer (filter_map (λ row. order_in row.phase) s.queue)

abbrev pub HavePhases : Records → Type 0
HavePhases r = AllByRecursion HasPhases r.sessions

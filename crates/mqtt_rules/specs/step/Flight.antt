-- Packet identifiers in flight (MQTT 5.0, 2.2.1).
use Rattle.std.specs.Prelude.{◌≡◌, ℕ, List, Option, Some, None}
use Rattle.mqtt_base.specs.Phases.{identifier_of}
use Rattle.std.specs.List.{AllByRecursion}
use Rattle.mqtt_records.specs.messages.Queue.{CopyRow}
use Rattle.mqtt_records.specs.declared.state.records.Records.{Records}
use Rattle.mqtt_records.specs.lists.Order.{IsAscending, row_at}
use Rattle.mqtt_records.specs.state.Session.{copy_place}

-- the packet identifier of the copy at a place of a queue
abbrev pub identifier_in : Option CopyRow → Option ℕ
identifier_in None = None
identifier_in (Some e) = identifier_of e.phase

abbrev pub identifier_at : ℕ → List CopyRow → Option ℕ
identifier_at place queue = identifier_in (row_at copy_place place queue)

-- each place of a queue is above those before it, and copies at different places have different packet identifiers
pub record IsFlight (queue : List CopyRow) : Type 0 where
  pub places : IsAscending copy_place queue
  pub identifiers : (place other id : ℕ)
      → identifier_at place queue ≡ Some id → identifier_at other queue ≡ Some id → place ≡ other

-- so it is in each session
abbrev pub HasDistinctIdentifiers : Records → Type 0
HasDistinctIdentifiers r = AllByRecursion (λ s. IsFlight s.queue) r.sessions

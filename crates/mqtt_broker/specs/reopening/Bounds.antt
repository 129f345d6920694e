-- Numbers of copies and of retained messages up to the last one, and whose each copy is (ours).
use Rattle.std.specs.Prelude.{◌≡◌, ℕ}
use Rattle.mqtt_base.specs.Phases.{order_of}
use Rattle.std.specs.List.{AllByRecursion}
use Rattle.mqtt_records.specs.messages.Queue.{CopyRow}
use Rattle.mqtt_records.specs.state.Records.{IsNumber}
use Rattle.mqtt_records.specs.declared.state.records.Records.{Records}
use Rattle.mqtt_records.specs.declared.state.session.Session.{Session}

-- a copy in the queue of the session with this birth
pub record IsBoundCopy (birth : ℕ) (row : CopyRow) : Type 0 where
  pub session : row.copy.id.birth ≡ birth
  pub place : IsNumber row.place
  pub order : IsNumber (order_of row.phase)

abbrev pub HasBounds : Session → Type 0
HasBounds s = AllByRecursion (IsBoundCopy s.birth) s.queue

pub record HaveBounds (r : Records) : Type 0 where
  pub sessions : AllByRecursion HasBounds r.sessions
  pub retained : AllByRecursion (λ kept. IsNumber kept.place) r.retained

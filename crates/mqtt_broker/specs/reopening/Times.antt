-- Numbers from 1, and moments that have been: of sessions, subscriptions, copies and retained messages (MQTT 5.0, 4.1).
use Rattle.std.specs.Prelude.{ℕ, ◌≤◌}
use Rattle.std.specs.List.{AllByRecursion}
use Rattle.mqtt_keep.specs.lawful.Lawful.{HasBeen}
use Rattle.mqtt_records.specs.messages.Queue.{CopyRow}
use Rattle.mqtt_records.specs.declared.messages.message.RetainedMessage.{RetainedMessage}
use Rattle.mqtt_records.specs.declared.state.records.Records.{Records}
use Rattle.mqtt_records.specs.declared.state.session.Session.{Session}

-- a copy's place is one from 1, and it is of a publication that was accepted by now
pub record IsTimelyCopy (now : ℕ) (row : CopyRow) : Type 0 where
  pub place : 1 ≤ row.place
  pub arrived : row.copy.content.arrived ≤ now

-- a session's birth and its subscriptions' places are from 1, and it was closed by now, if it is
pub record IsTimely (now : ℕ) (s : Session) : Type 0 where
  pub birth : 1 ≤ s.birth
  pub closed : HasBeen now s.closed
  pub subscriptions : AllByRecursion (λ x. 1 ≤ x.place) s.subscriptions
  pub queue : AllByRecursion (IsTimelyCopy now) s.queue

-- a retained message's place is from 1, and it is of a publication that was accepted by now
pub record IsTimelyKept (now : ℕ) (k : RetainedMessage) : Type 0 where
  pub place : 1 ≤ k.place
  pub arrived : k.content.arrived ≤ now

-- so it is with all that is stored, by the stored moment or by a later one
pub record AreTimely (now : ℕ) (r : Records) : Type 0 where
  pub sessions : AllByRecursion (IsTimely now) r.sessions
  pub retained : AllByRecursion (IsTimelyKept now) r.retained

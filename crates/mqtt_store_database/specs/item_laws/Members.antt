-- Which items records have, whatever their order.
use Rattle.std.specs.Prelude.{◌≡◌, ℕ, List, [], ◌∷◌, Option, Some, None}
use Rattle.std.specs.List.{AllByRecursion}
use Rattle.mqtt_records.specs.declared.state.session.Session.{Session}
use Rattle.mqtt_records.specs.messages.Queue.{CopyRow}
use Rattle.mqtt_records.specs.declared.state.records.Records.{Records}
use Rattle.mqtt_records.specs.declared.state.session.Columns.{Columns}
use Rattle.mqtt_records.specs.declared.messages.message.Will.{Will}
use Rattle.mqtt_records.specs.declared.state.subscription.Subscription.{Subscription}
use Rattle.mqtt_records.specs.lists.Order.{IsAscending}
use Rattle.mqtt_records.specs.state.Session.{birth_of, copy_place, place_of, number_of, columns_of}
use Rattle.mqtt_records.specs.state.Members.{Has, InPart, InQueue}

-- it isn't the copy at that place of that session
abbrev pub IsOther : ℕ → CopyRow → ℕ → ℕ → Type 0
IsOther b x birth place = b ≡ birth → x.place ≡ place → ⊥

-- the lists are in the order of their keys
pub record IsKept (r : Records) : Type 0 where
  pub sessions : IsAscending birth_of r.sessions
  pub queues : AllByRecursion (λ (s : Session). IsAscending copy_place s.queue) r.sessions

-- the session's own row is there
abbrev pub HasColumns : Records → Columns → Type 0
HasColumns r c = (s : Session) × Has r.sessions s × (columns_of s ≡ c)

-- at most one
abbrev pub listed : {X : Type 0} → Option X → List X
listed None = []
listed (Some x) = x ∷ []

abbrev pub will_of : Session → List Will
will_of s = listed s.will

abbrev pub subscriptions_of : Session → List Subscription
subscriptions_of s = s.subscriptions

abbrev pub inbound_of : Session → List ℕ
inbound_of s = s.inbound

-- each table has the rows of both
pub record SameRows (q r : Records) : Type 0 where
  pub columns : (c : Columns) → (HasColumns q c → HasColumns r c) × (HasColumns r c → HasColumns q c)
  pub wills : (b : ℕ) (x : Will) → (InPart will_of q.sessions b x → InPart will_of r.sessions b x) × (InPart will_of r.sessions b x → InPart will_of q.sessions b x)
  pub subscriptions : (b : ℕ) (x : Subscription) → (InPart subscriptions_of q.sessions b x → InPart subscriptions_of r.sessions b x) × (InPart subscriptions_of r.sessions b x → InPart subscriptions_of q.sessions b x)
  pub inbound : (b x : ℕ) → (InPart inbound_of q.sessions b x → InPart inbound_of r.sessions b x) × (InPart inbound_of r.sessions b x → InPart inbound_of q.sessions b x)
  pub queues : (b : ℕ) (x : CopyRow) → (InQueue q b x → InQueue r b x) × (InQueue r b x → InQueue q b x)

-- the lists of each session are in order too
pub record IsOrdered (s : Session) : Type 0 where
  pub subscriptions : IsAscending place_of s.subscriptions
  pub inbound : IsAscending number_of s.inbound
  pub queue : IsAscending copy_place s.queue

pub record AllOrdered (r : Records) : Type 0 where
  pub sessions : IsAscending birth_of r.sessions
  pub lists : AllByRecursion IsOrdered r.sessions

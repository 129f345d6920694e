-- Which records a database keeps: its rows are written from them, item by item (4.1).
use Rattle.std.specs.Prelude.{◌≡◌, ◌≢◌, ℕ, List, [], ◌∷◌, Some, codes}
use Rattle.sqlite_value.specs.Order.{Row}
use Rattle.sqlite_rules.specs.Lists.{Has}
use Rattle.mqtt_props.specs.Properties.{FitsBlock}
use Rattle.mqtt_records.specs.declared.messages.message.MessageCopy.{MessageCopy}
use Rattle.mqtt_records.specs.declared.messages.message.RetainedMessage.{RetainedMessage}
use Rattle.mqtt_records.specs.declared.messages.message.Will.{Will}
use Rattle.mqtt_records.specs.messages.PassedOn.{IsPassedOn}
use Rattle.mqtt_records.specs.messages.Queue.{CopyRow, first_sent}
use Rattle.mqtt_records.specs.declared.state.change.Change.{Change}
use Rattle.mqtt_records.specs.declared.state.change.Change.TheVariants.{SetCounter, PutSession, SetSession, RemoveSession, PutWill, RemoveWill, PutSubscription, RemoveSubscription, PutInbound, RemoveInbound, PutCopy, SetCopy, RemoveCopy, PutRetained, RemoveRetained}
use Rattle.mqtt_records.specs.declared.state.records.Records.{Records}
use Rattle.mqtt_records.specs.declared.state.subscription.Subscription.{Subscription}
use Rattle.mqtt_records.specs.state.Members.{Has as HasItem, InPart, InQueue}
use Rattle.mqtt_store_database.specs.item_laws.Members.{will_of, subscriptions_of, inbound_of}

-- ---- rows and items

-- each item has its row, and each row is of an item
pub record AreWritten {X : Type 0} (IsRow : X → Row → Type 0) (Item : X → Type 0) (rows : List Row) : Type 0 where
  pub each : (x : X) → Item x → (row : Row) × Has rows row × IsRow x row
  pub only : (row : Row) → Has rows row → (x : X) × Item x × IsRow x row

-- ---- all tables

-- the six numbers by their names; schema is 1
abbrev pub numbers_in : Records → List (List ℕ × ℕ)
numbers_in r =
    (codes "births", r.births) ∷ (codes "publications", r.publications) ∷ (codes "subscribes", r.subscribes)
    ∷ (codes "autos", r.autos) ∷ (codes "moment", r.moment) ∷ (codes "schema", 1) ∷ []

abbrev pub IsWillOf : Records → ℕ × Will → Type 0
IsWillOf r x = InPart will_of r.sessions x.0 x.1

abbrev pub IsSubscriptionOf : Records → ℕ × Subscription → Type 0
IsSubscriptionOf r x = InPart subscriptions_of r.sessions x.0 x.1

abbrev pub IsOpenOf : Records → ℕ × ℕ → Type 0
IsOpenOf r x = InPart inbound_of r.sessions x.0 x.1

abbrev pub IsCopyOf : Records → ℕ × CopyRow → Type 0
IsCopyOf r x = InQueue r x.0 x.1

-- ---- what a row can say of its item

-- what is passed on and what is sent have spellings, and what is sent says what was passed on
pub record IsSayableCopy (copy : MessageCopy) : Type 0 where
  pub passed : IsPassedOn copy.content.properties
  pub spelled : FitsBlock copy.content.properties
  pub sent : FitsBlock (first_sent copy)

abbrev pub IsSayableWill : Will → Type 0
IsSayableWill will = FitsBlock will.properties

-- no Subscription Identifier is 0 (3.8.2.1.2)
abbrev pub IsSayableSubscription : Subscription → Type 0
IsSayableSubscription s = s.identifier ≢ Some 0

abbrev pub IsSayableRetained : RetainedMessage → Type 0
IsSayableRetained kept = FitsBlock kept.content.properties

-- all items; a copy is of the session in whose queue it stands
pub record AreSayable (r : Records) : Type 0 where
  pub wills : (b : ℕ) (x : Will) → InPart will_of r.sessions b x → IsSayableWill x
  pub subscriptions : (b : ℕ) (x : Subscription) → InPart subscriptions_of r.sessions b x → IsSayableSubscription x
  pub own : (b : ℕ) (x : CopyRow) → InQueue r b x → x.copy.id.birth ≡ b
  pub copies : (b : ℕ) (x : CopyRow) → InQueue r b x → IsSayableCopy x.copy
  pub retained : (x : RetainedMessage) → HasItem r.retained x → IsSayableRetained x

-- the item that a change puts
abbrev pub IsSayable : Change → Type 0
IsSayable (SetCounter counter value) = Unit {0}
IsSayable (PutSession row) = Unit {0}
IsSayable (SetSession row) = Unit {0}
IsSayable (RemoveSession birth) = Unit {0}
IsSayable (PutWill birth will) = IsSayableWill will
IsSayable (RemoveWill birth) = Unit {0}
IsSayable (PutSubscription birth subscription) = IsSayableSubscription subscription
IsSayable (RemoveSubscription birth text) = Unit {0}
IsSayable (PutInbound birth identifier) = Unit {0}
IsSayable (RemoveInbound birth identifier) = Unit {0}
IsSayable (PutCopy birth row) = IsSayableCopy row.copy
IsSayable (SetCopy birth place phase) = Unit {0}
IsSayable (RemoveCopy birth place) = Unit {0}
IsSayable (PutRetained kept) = IsSayableRetained kept
IsSayable (RemoveRetained place) = Unit {0}

abbrev pub AllSayable : List Change → Type 0
AllSayable [] = Unit {0}
AllSayable (change ∷ changes) = IsSayable change × AllSayable changes

-- What the copies of a publication and its retained message say alike (3.3).
use Rattle.std.specs.Prelude.{◌≡◌, ◌⊎◌, ℕ, List, [], ◌∷◌}
use Rattle.mqtt_props.specs.Properties.{Prop}
use Rattle.mqtt_records.specs.declared.messages.message.Content.{Content}
use Rattle.mqtt_records.specs.declared.messages.message.RetainedMessage.{RetainedMessage}
use Rattle.mqtt_records.specs.messages.Queue.{CopyRow}
use Rattle.mqtt_records.specs.declared.state.change.Change.{Change}
use Rattle.mqtt_records.specs.declared.state.change.Change.TheVariants.{SetCounter, PutSession, SetSession, RemoveSession, PutWill, RemoveWill, PutSubscription, RemoveSubscription, PutInbound, RemoveInbound, PutCopy, SetCopy, RemoveCopy, PutRetained, RemoveRetained}
use Rattle.mqtt_records.specs.declared.state.records.Records.{Records}
use Rattle.mqtt_records.specs.state.Records.{changed}
use Rattle.mqtt_records.specs.state.Members.{Has, InQueue}

-- a publication by its number, with its properties as they are passed on
pub record StoredMessage : Type 0 where
  pub publication : ℕ
  pub topic : List ℕ
  pub properties : List Prop
  pub payload : List ℕ

-- when it was accepted is no part of it: each copy keeps that
abbrev pub stored_message : ℕ → Content → StoredMessage
stored_message publication content = record { publication = publication; topic = content.topic; properties = content.properties; payload = content.payload }

abbrev pub copy_message : CopyRow → StoredMessage
copy_message x = stored_message x.copy.id.publication x.copy.content

abbrev pub retained_message : RetainedMessage → StoredMessage
retained_message x = stored_message x.publication x.content

-- some copy in a queue says it, or some retained message
abbrev pub IsMessageOf : Records → StoredMessage → Type 0
IsMessageOf r m = ((b : ℕ) × (x : CopyRow) × InQueue r b x × (m ≡ copy_message x)) ⊎ ((x : RetainedMessage) × Has r.retained x × (m ≡ retained_message x))

-- what is there of its number says the same
abbrev pub AgreesWith : Records → StoredMessage → Type 0
AgreesWith r m = (n : StoredMessage) → IsMessageOf r n → n.publication ≡ m.publication → n ≡ m

-- all copies and retained messages of one number say the same
abbrev pub SharesContents : Records → Type 0
SharesContents r = (m : StoredMessage) → IsMessageOf r m → AgreesWith r m

-- what a change puts says what is said under its number
abbrev pub FitsContents : Change → Records → Type 0
FitsContents (SetCounter counter value) r = Unit {0}
FitsContents (PutSession row) r = Unit {0}
FitsContents (SetSession row) r = Unit {0}
FitsContents (RemoveSession birth) r = Unit {0}
FitsContents (PutWill birth will) r = Unit {0}
FitsContents (RemoveWill birth) r = Unit {0}
FitsContents (PutSubscription birth subscription) r = Unit {0}
FitsContents (RemoveSubscription birth text) r = Unit {0}
FitsContents (PutInbound birth identifier) r = Unit {0}
FitsContents (RemoveInbound birth identifier) r = Unit {0}
FitsContents (PutCopy birth row) r = AgreesWith r (copy_message row)
FitsContents (SetCopy birth place phase) r = Unit {0}
FitsContents (RemoveCopy birth place) r = Unit {0}
FitsContents (PutRetained kept) r = AgreesWith r (retained_message kept)
FitsContents (RemoveRetained place) r = Unit {0}

-- each says so by what is said under its number after those before it
abbrev pub FitContents : List Change → Records → Type 0
FitContents [] r = Unit {0}
FitContents (change ∷ changes) r = FitsContents change r × FitContents changes (changed change r)

-- What a row can say of the item that a change puts: for the rest a table has no word (4.1).
use Rattle.std.specs.Prelude.{◌≢◌, List, [], ◌∷◌, Some}
use Rattle.mqtt_props.specs.Properties.{FitsBlock}
use Rattle.mqtt_records.specs.messages.PassedOn.{IsPassedOn}
use Rattle.mqtt_records.specs.messages.Queue.{first_sent}
use Rattle.mqtt_records.specs.declared.messages.message.MessageCopy.{MessageCopy}
use Rattle.mqtt_records.specs.declared.state.change.Change.{Change}
use Rattle.mqtt_records.specs.declared.state.change.Change.TheVariants.{PutWill, PutSubscription, PutCopy, PutRetained}

-- ---- what a store is asked to keep

-- what was passed on has a spelling, and so has what is sent
pub record IsSayableCopy (copy : MessageCopy) : Type 0 where
  pub spelled : FitsBlock copy.content.properties
  pub sent : FitsBlock (first_sent copy)

-- properties have a spelling, and no Subscription Identifier is 0 (3.8.2.1.2)
abbrev pub IsSayable : Change → Type 0
IsSayable (PutWill birth will) = FitsBlock will.properties
IsSayable (PutSubscription birth subscription) = subscription.identifier ≢ Some 0
IsSayable (PutCopy birth row) = IsSayableCopy row.copy
IsSayable (PutRetained kept) = FitsBlock kept.content.properties
IsSayable change = Unit {0}

abbrev pub AllSayable : List Change → Type 0
AllSayable [] = Unit {0}
AllSayable (change ∷ changes) = IsSayable change × AllSayable changes

-- ---- what the types of the code give

-- a copy's properties are as a publication passes them on (3.3.2.3)
abbrev pub PassesOn : Change → Type 0
PassesOn (PutCopy birth row) = IsPassedOn row.copy.content.properties
PassesOn change = Unit {0}

abbrev pub AllPassOn : List Change → Type 0
AllPassOn [] = Unit {0}
AllPassOn (change ∷ changes) = PassesOn change × AllPassOn changes

-- What waiting copies say beside their topics, apart from their rows (MQTT 5.0, 3.3).
use Rattle.std.specs.Prelude.{◌≡◌, ℕ, List, length}
use Rattle.mqtt_props.specs.Properties.{Prop, FitsBlock, props}
use Rattle.mqtt_props.specs.declared.table.PropName.TheVariants.{MessageExpiryInterval}
use Rattle.mqtt_records.specs.messages.Content.{CopyContent}
use Rattle.mqtt_records.specs.declared.messages.message.MessageCopy.{MessageCopy}
use Rattle.mqtt_records.specs.messages.PassedOn.{number_at, sent_after}
use Rattle.mqtt_records.specs.messages.Queue.{CopyRow, first_sent}

-- what a waiting copy says beside its topic
pub record Filling : Type 0 where
  pub identifiers : List ℕ  -- the Subscription Identifiers (3.3.2.3.8)
  pub properties : List Prop
  pub payload : List ℕ

-- such a thing for each place of each session, by the session's birth; at a place without a copy it may be any
abbrev pub Fillings : Type 0
Fillings = ℕ → ℕ → Filling

abbrev pub filling_of : MessageCopy → Filling
filling_of copy =
    record { identifiers = copy.identifiers; properties = copy.content.properties; payload = copy.content.payload }

-- ---- rows that say it

abbrev pub filled_copy : Filling → MessageCopy → MessageCopy
filled_copy filling copy = record copy {
  identifiers = filling.identifiers;
  content = record copy.content { properties = filling.properties; payload = filling.payload };
}

abbrev pub filled_row : (ℕ → Filling) → CopyRow → CopyRow
filled_row fillings e = record e { copy = filled_copy (fillings e.place) e.copy }

-- ---- rows that say what is told of one copy

abbrev pub said_by : CopyContent → Filling
said_by said = record { identifiers = said.identifiers; properties = said.properties; payload = said.payload }

-- place, phase and topic stay, and what tells the copy from others
abbrev pub filled_with : CopyContent → CopyRow → CopyRow
filled_with said e = record e { copy = filled_copy (said_by said) e.copy }

-- with what is said the copy's PUBLISH has a spelling, with as many bytes of properties and of payload as it has,
-- and its Message Expiry Interval is the same
pub record HasBytesOf (copy : MessageCopy) (said : CopyContent) : Type 0 where
  pub spelled : FitsBlock (sent_after 0 said.identifiers said.properties)
  pub properties : length (props (sent_after 0 said.identifiers said.properties)) ≡ length (props (first_sent copy))
  pub payload : length said.payload ≡ length copy.content.payload
  pub interval : number_at MessageExpiryInterval said.properties ≡ number_at MessageExpiryInterval copy.content.properties

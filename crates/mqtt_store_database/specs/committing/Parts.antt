-- What a change's rows need in schema 2 beside the change itself.
use Rattle.std.specs.Prelude.{◌≡◌, ℕ, List, [], map}
use Rattle.mqtt_props.specs.Properties.{block, props}
use Rattle.mqtt_records.specs.messages.PassedOn.{identified}
use Rattle.mqtt_records.specs.declared.state.change.Change.{Change}
use Rattle.mqtt_records.specs.declared.state.change.Change.TheVariants.{PutWill, PutCopy, PutRetained}
use Rattle.mqtt_store_database.specs.written.Columns.{columns_in}
use Rattle.mqtt_store_database.specs.declared.committing.parts.Parts.{Parts}

-- the block of properties of the row that is put: of a Will, or of a message as they are passed on
abbrev pub block_in : Change → List ℕ
block_in (PutWill birth will) = block will.properties
block_in (PutCopy birth row) = block row.copy.content.properties
block_in (PutRetained kept) = block kept.content.properties
block_in _ = []

-- the Subscription Identifiers of a copy as they are sent, without a length in front
abbrev pub identifiers_in : Change → List ℕ
identifiers_in (PutCopy birth row) = props (map identified row.copy.identifiers)
identifiers_in _ = []

-- the payload of a copy's message
abbrev pub payload_in : Change → List ℕ
payload_in (PutCopy birth row) = row.copy.content.payload
payload_in _ = []

pub record ArePartsOf (change : Change) (parts : Parts) : Type 0 where
  pub columns : parts.columns ≡ columns_in change
  pub block : parts.block.items ≡ block_in change
  pub identifiers : parts.identifiers.items ≡ identifiers_in change
  pub payload : parts.payload ≡ payload_in change

-- What a row says that joins a copy with its message (4.1).
use Rattle.std.specs.Prelude.{◌≡◌, ℕ, List, [], ◌∷◌, map, filter, take}
use Rattle.sqlite_value.specs.declared.value.Value.TheVariants.{Text, Blob}
use Rattle.sqlite_value.specs.Order.{Row, column}
use Rattle.mqtt_base.specs.Values.{FitsText}
use Rattle.mqtt_props.specs.Properties.{block}
use Rattle.mqtt_records.specs.messages.Queue.{CopyRow}
use Rattle.mqtt_records.specs.messages.Content.{CopyContent}
use Rattle.mqtt_records.specs.declared.state.records.Records.{Records}
use Rattle.mqtt_records.specs.state.Telling.{queue_at, is_from}
use Rattle.mqtt_store_rows.specs.values.Values.{number, IsCounted}
use Rattle.mqtt_store_rows.specs.values.Blocks.{SaysPassed}
use Rattle.mqtt_store_rows.specs.rows.Rows.{pairs, SaysIdentifiers}

-- place, idents, topic, props, payload
pub record SaysCopyContent (c : CopyContent) (row : Row) : Type 0 where
  pub place : column row 0 ≡ number c.place
  pub place_range : IsCounted c.place
  pub identifiers : SaysIdentifiers c.identifiers (column row 1)
  pub topic : column row 2 ≡ Text c.topic
  pub topic_range : FitsText c.topic
  pub properties : SaysPassed c.properties (column row 3)
  pub payload : column row 4 ≡ Blob c.payload

-- such a row as is written of a copy and its message
abbrev pub content_row : CopyRow → Row
content_row x = number x.place ∷ Blob (pairs x.copy.identifiers) ∷ Text x.copy.content.topic ∷ Blob (block x.copy.content.properties) ∷ Blob x.copy.content.payload ∷ []

-- those of the first copies of a session from a place on
abbrev pub content_rows : ℕ → ℕ → ℕ → Records → List Row
content_rows birth place limit r = take limit (map content_row (filter (is_from place) (queue_at birth r)))

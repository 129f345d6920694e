-- What the tables of schema 2 tell of waiting copies, each by its place (3.3, 4.1).
use Rattle.std.specs.Prelude.{ℕ, pos, Bool, List, [], map, find, unwrap_or, Result, Ok, Err}
use Rattle.sqlite_value.specs.declared.keys.Collation.TheVariants.{Binary}
use Rattle.sqlite_value.specs.Order.{Row, column, bytes}
use Rattle.sqlite_trees.specs.Tree.{Trees}
use Rattle.sqlite_schema.specs.Rules.{equal}
use Rattle.mqtt_props.specs.declared.fault.PropFault.{PropFault}
use Rattle.mqtt_props.specs.Properties.{Prop}
use Rattle.mqtt_props.specs.Reading.{block_at, props_of}
use Rattle.mqtt_records.specs.messages.PassedOn.{number_in}
use Rattle.mqtt_records.specs.messages.Filling.{Filling, Fillings}
use Rattle.mqtt_store_tables.specs.declared.schema.tables.Making.{Making}
use Rattle.mqtt_store_tables.specs.statements.Removal.{is_keyed}
use Rattle.mqtt_store_tables.specs.messages.Places.{message_tree, queued_tree}

-- ---- rows of the trees

-- the first row that passes; if none does, one without columns
abbrev pub row_with : (Row → Bool) → List Row → Row
row_with passes rows = unwrap_or (find passes rows) []

-- of `queued` the row at that place of the session with that birth
abbrev pub copy_in : ℕ → ℕ → List Row → Row
copy_in birth place queued = row_with (is_keyed (pos birth) (pos place)) queued

-- the message has the number to which the copy refers
abbrev pub is_message_for : Row → Row → Bool
is_message_for copy message = equal Binary (column message 0) (column copy 3)

-- of `message` the row to which that of a copy refers
abbrev pub message_for : Row → List Row → Row
message_for copy messages = row_with (is_message_for copy) messages

-- ---- what they say

-- the numbers of Subscription Identifiers as they are sent; none, if the bytes are no such pairs
abbrev pub identifiers_read : List ℕ → List ℕ
identifiers_read bytes = map (λ p. number_in p.value) (props_of bytes)

-- the properties that were read; none, if none could be
abbrev pub properties_read : Result (List Prop × List ℕ) PropFault → List Prop
properties_read (Ok x) = x.0
properties_read (Err fault) = []

-- the row of a copy with that of its message
abbrev pub filling_said : Row → Row → Filling
filling_said copy message = record {
  identifiers = identifiers_read (bytes (column copy 12));
  properties = properties_read (block_at (bytes (column message 3)));
  payload = bytes (column message 4);
}

abbrev pub told_with : List Row → Row → Filling
told_with messages copy = filling_said copy (message_for copy messages)

-- for each place of each session what its row says with its message; where no row stands, something empty
abbrev pub told_in : Making → Trees → Fillings
told_in making db = λ birth place. told_with (db (message_tree making)) (copy_in birth place (db (queued_tree making)))

-- What the row of a message, of a copy and of a retained message shows in schema 2.
use Rattle.std.proofs.Common.{◌≡◌, ℕ, pos, List, [], ◌∷◌, ap, ◌∙◌}
use Rattle.sqlite_value.specs.declared.value.Value.TheVariants.{Int, Text, Blob}
use Rattle.sqlite_value.specs.Order.{Row}
use Rattle.sqlite_trees.specs.Tree.{Trees}
use Rattle.mqtt_base.specs.Service.{qos_number}
use Rattle.mqtt_props.specs.Properties.{block}
use Rattle.mqtt_records.specs.declared.messages.message.RetainedMessage.{RetainedMessage}
use Rattle.mqtt_records.specs.messages.Queue.{CopyRow}
use Rattle.mqtt_records.specs.state.Contents.{StoredMessage}
use Rattle.mqtt_store_tables.specs.declared.schema.tables.Making.{Making}
use Rattle.mqtt_store_tables.specs.messages.Rows.{queued_row}
use Rattle.mqtt_store_rows.specs.rows.Rows.{SaysMessage}
use Rattle.mqtt_store_rows.specs.rows.Joins.{SaysCopy, SaysRetained}
use Rattle.mqtt_store_database.specs.row_laws.Items.{queued_columns, IsMessageRow, IsQueuedRow, IsKeptRow}
use Rattle.mqtt_store_database.specs.asking.Listing.{shown_at}
use Rattle.mqtt_store_database.specs.declared.reading.reading.AddedTable.{AddedTable}
use Rattle.mqtt_store_database.specs.declared.reading.reading.AddedTable.TheVariants.{Message, Queued, Kept}
use Rattle.mqtt_store_database.specs.reading.Listing.{added_tree, added_columns}
use Rattle.mqtt_store_database.proofs.found_lemmas.both.Traverse.{SaysOf}
use Rattle.mqtt_store_database.proofs.found_lemmas.both.Lines.{AreLines, two, more, block_is, cause_said, phase_said}

-- ---- the lines

abbrev pub message_line : StoredMessage → Row
message_line m = Int (pos m.publication) ∷ Text m.topic ∷ Blob (block m.properties) ∷ Blob m.payload ∷ []

abbrev pub queued_line : ℕ × CopyRow → Row
queued_line x = queued_row x.0 x.1.place (queued_columns x.1)

abbrev pub kept_line : RetainedMessage → Row
kept_line m = Int (pos m.place) ∷ Text m.content.topic ∷ Text m.sender ∷ Int (pos m.publication) ∷ Int (pos (qos_number m.qos)) ∷ Int (pos m.content.arrived) ∷ []

-- what a load reads of a row
abbrev pub shown : AddedTable → Row → Row
shown table = shown_at (added_columns table)

-- each item has a row that shows its line, and each row shows that of an item
abbrev pub AreLined : {X : Type 0} → Making → AddedTable → (X → Row) → (X → Type 0) → Trees → Type 0
AreLined making table line Item db = AreLines (shown table) line Item (db (added_tree making table))

-- ---- a row that is written from an item shows its line

-- a message's row shows its number and what it says
pub message_shown : (m : StoredMessage) (row : Row) → IsMessageRow m row → shown Message row ≡ message_line m
message_shown m row h = ap (shown Message) h

-- a copy's row shows its birth, its place and what it says itself
pub queued_shown : (x : ℕ × CopyRow) (row : Row) → IsQueuedRow x row → shown Queued row ≡ queued_line x
queued_shown x row h = ap (shown Queued) h.1

-- a retained message's row shows its place and what it says itself
pub kept_shown : (m : RetainedMessage) (row : Row) → IsKeptRow m row → shown Kept row ≡ kept_line m
kept_shown m row h = ap (shown Kept) h

-- ---- a row that says an item shows its line

-- a row that says a message shows the line that is written of it
pub message_said : (m : StoredMessage) (row : Row) → SaysMessage m (shown Message row) → shown Message row ≡ message_line m
message_said m row h = more _ _ _ _ h.publication (more _ _ _ _ h.topic (two _ _ _ _ (block_is _ _ _ h.properties.block) h.payload))

module _ (messages : List StoredMessage) where
  -- a row that says a copy with these messages shows the line that is written of it
  pub queued_said : (x : ℕ × CopyRow) (row : Row) → SaysOf (SaysCopy messages) x (shown Queued row) → shown Queued row ≡ queued_line x
  queued_said x row h =
      let it = h.1.own in
      let own = it.own in
      let cause = cause_said x.1.copy.id.cause _ _ _ own.id.cause in
      let phase = phase_said x.1.copy.qos x.1.phase _ _ _ it.phase in
      more _ _ _ _ h.0 (more _ _ _ _ it.place (more _ _ _ _ own.id.publication
      (more _ _ _ _ cause.0 (more _ _ _ _ cause.1 (more _ _ _ _ cause.2
      (more _ _ _ _ phase.0 (more _ _ _ _ phase.1 (more _ _ _ _ phase.2
      (more _ _ _ _ own.qos (more _ _ _ _ own.retain (two _ _ _ _ (own.identifiers.holds ∙ ap Blob own.identifiers.are.spelled) own.arrived)))))))))))

  -- a row that says a retained message with these messages shows the line that is written of it
  pub kept_said : (m : RetainedMessage) (row : Row) → SaysRetained messages m (shown Kept row) → shown Kept row ≡ kept_line m
  kept_said m row h =
      let own = h.own in
      more _ _ _ _ own.place (more _ _ _ _ own.topic (more _ _ _ _ own.sender (more _ _ _ _ own.publication (two _ _ _ _ own.qos own.arrived))))

-- What sets a copy's handshake.
use Rattle.std.specs.Prelude.{◌≡◌, ◌≢◌, ℕ, ℤ, ◌∷◌, Option}
use Rattle.sqlite_value.specs.declared.value.Value.TheVariants.{Int}
use Rattle.sqlite_trees.specs.Tree.{Trees, put_row, without_rowid}
use Rattle.sqlite_rules.specs.Edit.{IsNoIndex}
use Rattle.mqtt_store_tables.specs.declared.schema.tables.Making.{Making}
use Rattle.mqtt_store_tables.specs.statements.Layout.{second_layout, schema_of}
use Rattle.mqtt_store_tables.specs.messages.Places.{queued_tree}
use Rattle.mqtt_store_tables.specs.messages.Rows.{QueuedColumns, queued_row}

abbrev pub set_queued : Option ℕ → ℕ → Option ℕ → QueuedColumns → QueuedColumns
set_queued pid phase rel row = record row { pid = pid; phase = phase; rel = rel }

-- the row of this rowid has the new handshake, and all other rows are as they were
pub record SetsQueued (making : Making) (birth place phase : ℕ) (pid rel : Option ℕ) (id : ℤ) (c : QueuedColumns) (old new : Trees) : Type 0 where
  pub rows : new (queued_tree making) ≡ put_row (Int id ∷ queued_row birth place (set_queued pid phase rel c)) (without_rowid id (old (queued_tree making)))
  pub others : (t : ℕ) → t ≢ queued_tree making → IsNoIndex (schema_of (second_layout making)) t → new t ≡ old t

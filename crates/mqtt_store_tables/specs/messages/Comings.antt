-- How the rows come and go that refer to messages.
use Rattle.std.specs.Prelude.{◌≡◌, ℕ, pos, Bool, true, false}
use Rattle.std.specs.List.{list_any}
use Rattle.sqlite_trees.specs.Tree.{Trees}
use Rattle.mqtt_store_tables.specs.declared.schema.tables.Making.{Making}
use Rattle.mqtt_store_tables.specs.statements.Layout.{second_layout}
use Rattle.mqtt_store_tables.specs.statements.Content.{is_of}
use Rattle.mqtt_store_tables.specs.statements.Removal.{is_keyed, RemovesFrom}
use Rattle.mqtt_store_tables.specs.statements.Put.{PutsInto, PutsNumbered, is_retained}
use Rattle.mqtt_store_tables.specs.messages.Places.{queued_tree, kept_tree}
use Rattle.mqtt_store_tables.specs.messages.Rows.{QueuedColumns, KeptColumns, queued_row, kept_row}

-- the copy is put, in place of the one at its place in that queue
abbrev pub PutsQueued : Making → ℕ → ℕ → QueuedColumns → Trees → Trees → Type 0
PutsQueued making birth place copy = PutsNumbered (second_layout making) (queued_tree making) (queued_row birth place copy) (is_keyed (pos birth) (pos place))

-- the copy is put, and none stood at its place in that queue; or else all is as it was
abbrev pub InsertsQueued : Making → ℕ → ℕ → QueuedColumns → Bool → Trees → Trees → Type 0
InsertsQueued making birth place copy true old new = (list_any (is_keyed (pos birth) (pos place)) (old (queued_tree making)) ≡ false) × PutsQueued making birth place copy old new
InsertsQueued making birth place copy false old new = new ≡ old

-- the copy at that place in that queue is out
abbrev pub RemovesQueued : Making → ℕ → ℕ → Trees → Trees → Type 0
RemovesQueued making birth place = RemovesFrom (second_layout making) (queued_tree making) (is_keyed (pos birth) (pos place))

-- the retained message is put, in place of the one at its place and of the one for its topic
abbrev pub PutsKept : Making → ℕ → KeptColumns → Trees → Trees → Type 0
PutsKept making place kept = PutsInto (second_layout making) (kept_tree making) (kept_row place kept) (is_retained place kept.topic)

-- the retained message at that place is out
abbrev pub RemovesKept : Making → ℕ → Trees → Trees → Type 0
RemovesKept making place = RemovesFrom (second_layout making) (kept_tree making) (is_of 0 (pos place))

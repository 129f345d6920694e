-- Which messages go when rows that refer to them come and go.
use Rattle.std.specs.Prelude.{◌≡◌, ℕ, pos, Bool, true, not, ◌&&◌, List}
use Rattle.std.specs.List.{list_any}
use Rattle.sqlite_value.specs.Order.{Row}
use Rattle.sqlite_trees.specs.Tree.{Trees, rowid}
use Rattle.sqlite_rules.specs.Edit.{id_in}
use Rattle.sqlite_rules.specs.Lists.{Has}
use Rattle.mqtt_store_tables.specs.declared.schema.tables.Making.{Making}
use Rattle.mqtt_store_tables.specs.statements.Layout.{second_layout}
use Rattle.mqtt_store_tables.specs.statements.Content.{is_of}
use Rattle.mqtt_store_tables.specs.statements.Removal.{RemovesFrom}
use Rattle.mqtt_store_tables.specs.messages.Places.{message_tree}
use Rattle.mqtt_store_tables.specs.messages.Rows.{MessageColumns, message_row}
use Rattle.mqtt_store_tables.specs.messages.Messages.{is_referred, PutsMessage}

-- something referred to the message in that row, and nothing does now
abbrev pub is_let_go : Making → Trees → Trees → Row → Bool
is_let_go making old new r = is_referred making (id_in (rowid r)) old && not (is_referred making (id_in (rowid r)) new)

-- the tables change so, and then those messages go that were let go by it
abbrev pub LetsGo : Making → (Trees → Trees → Type 0) → Trees → Trees → Type 0
LetsGo making change old new = (mid : Trees) × change old mid × RemovesFrom (second_layout making) (message_tree making) (is_let_go making old mid) mid new

-- the message of a publication is put, unless one of its number stands, and then the tables change so
abbrev pub PutsFirst : Making → ℕ → MessageColumns → (Trees → Trees → Type 0) → Trees → Trees → Type 0
PutsFirst making publication message change old new = (mid : Trees) × PutsMessage making (pos publication) (message_row publication message) old mid × change mid new

-- the row is the message of one of these numbers, and nothing refers to it
abbrev pub is_swept : Making → List ℕ → Trees → Row → Bool
is_swept making numbers db r = list_any (λ n. is_of 0 (pos n) r && not (is_referred making (pos n) db)) numbers

-- the messages of these numbers go to which nothing refers, and all other rows are as they were
abbrev pub SweepsAll : Making → List ℕ → Trees → Trees → Type 0
SweepsAll making numbers old = RemovesFrom (second_layout making) (message_tree making) (is_swept making numbers old) old

-- something refers to each message
abbrev pub AllReferred : Making → Trees → Type 0
AllReferred making db = (r : Row) → Has (db (message_tree making)) r → is_referred making (id_in (rowid r)) db ≡ true

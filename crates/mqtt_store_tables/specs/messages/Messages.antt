-- What the statements on messages make of the trees.
use Rattle.std.specs.Prelude.{◌≡◌, ◌≢◌, ℕ, ℤ, pos, Bool, true, not, ◌&&◌, ◌||◌, if◌then◌else◌, List, Option, IfSome}
use Rattle.std.specs.List.{list_any}
use Rattle.sqlite_value.specs.Order.{Row}
use Rattle.sqlite_trees.specs.Tree.{Trees, put_row}
use Rattle.sqlite_rules.specs.Edit.{IsNoIndex}
use Rattle.mqtt_store_tables.specs.declared.schema.tables.Making.{Making}
use Rattle.mqtt_store_tables.specs.statements.Layout.{second_layout, schema_of}
use Rattle.mqtt_store_tables.specs.statements.Content.{is_of}
use Rattle.mqtt_store_tables.specs.statements.Removal.{RemovesFrom}
use Rattle.mqtt_store_tables.specs.messages.Places.{message_tree, queued_tree, kept_tree}

-- the row is put, unless one of that number stands
abbrev pub with_missing : ℤ → Row → List Row → List Row
with_missing n put rows = if list_any (is_of 0 n) rows then rows else put_row put rows

-- of that number the row stands that stood, or else this one, and all other rows are as they were
pub record PutsMessage (making : Making) (n : ℤ) (put : Row) (old new : Trees) : Type 0 where
  pub rows : new (message_tree making) ≡ with_missing n put (old (message_tree making))
  pub others : (t : ℕ) → t ≢ message_tree making → IsNoIndex (schema_of (second_layout making)) t → new t ≡ old t

-- some copy or retained message refers to the message of that number
abbrev pub is_referred : Making → ℤ → Trees → Bool
is_referred making n db = list_any (is_of 3 n) (db (queued_tree making)) || list_any (is_of 4 n) (db (kept_tree making))

-- the message of that number goes if nothing refers to it, and all other rows are as they were
abbrev pub Sweeps : Making → ℤ → Trees → Trees → Type 0
Sweeps making n old = RemovesFrom (second_layout making) (message_tree making) (λ r. is_of 0 n r && not (is_referred making n old)) old

-- if a publication is named, a message of its number stands
abbrev pub StandsIf : Making → Option ℕ → Trees → Type 0
StandsIf making known db = IfSome known (λ n. list_any (is_of 0 (pos n)) (db (message_tree making)) ≡ true)

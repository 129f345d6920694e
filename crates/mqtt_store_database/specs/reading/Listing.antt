-- The rows of a table that schema 2 adds, as a load reads them: some columns of each, in the order of a key.
use Rattle.std.specs.Prelude.{ℕ, ◌+◌, List, [], ◌∷◌, codes}
use Rattle.sqlite_value.specs.Order.{Row}
use Rattle.sqlite_trees.specs.Tree.{Trees}
use Rattle.mqtt_store_tables.specs.schema.Tables.{free_tree}
use Rattle.mqtt_store_tables.specs.declared.schema.tables.Making.{Making}
use Rattle.mqtt_store_database.specs.asking.Listing.{IsListingOf}
use Rattle.mqtt_store_database.specs.declared.reading.reading.AddedTable.{AddedTable}
use Rattle.mqtt_store_database.specs.declared.reading.reading.AddedTable.TheVariants.{Message, Queued, Kept}

abbrev pub added_text : AddedTable → List ℕ
added_text Message = codes "SELECT pub, topic, props, payload FROM message ORDER BY pub"
added_text Queued = codes "SELECT birth, place, pub, cause, cause_text, cause_n, pid, phase, rel, qos, retain, idents, arrived FROM queued ORDER BY birth, place"
added_text Kept = codes "SELECT place, topic, sender, pub, qos, arrived FROM kept ORDER BY place"

-- the tree of the table's rows
abbrev pub added_tree : Making → AddedTable → ℕ
added_tree making Message = free_tree making
added_tree making Queued = free_tree making + 1
added_tree making Kept = free_tree making + 3

-- where its columns stand in the tree's rows, which begin with their own number; a column that is that number stands there
abbrev pub added_columns : AddedTable → List ℕ
added_columns Message = 0 ∷ 2 ∷ 3 ∷ 4 ∷ []
added_columns Queued = 1 ∷ 2 ∷ 3 ∷ 4 ∷ 5 ∷ 6 ∷ 7 ∷ 8 ∷ 9 ∷ 10 ∷ 11 ∷ 12 ∷ 13 ∷ []
added_columns Kept = 0 ∷ 2 ∷ 3 ∷ 4 ∷ 5 ∷ 6 ∷ []

-- which of the columns are the key: message by number, queued by birth and place, kept by place
abbrev pub added_key : AddedTable → List ℕ
added_key Message = 0 ∷ []
added_key Queued = 0 ∷ 1 ∷ []
added_key Kept = 0 ∷ []

-- all rows of the table, each once, in the order of the key
abbrev pub IsAddedListing : Making → AddedTable → Trees → List Row → Type 0
IsAddedListing making table db = IsListingOf (added_columns table) (added_key table) (db (added_tree making table))

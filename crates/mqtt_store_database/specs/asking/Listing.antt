-- The rows of a table, as a load reads them: some columns of each, in the order of a key.
use Rattle.std.specs.Prelude.{◌≡◌, ℕ, List, [], ◌∷◌, map, codes, IsPermutation, IsSorted}
use Rattle.std.specs.declared.cmp.Ordering.{Ordering}
use Rattle.std.specs.declared.cmp.Ordering.TheVariants.{Equal}
use Rattle.std.specs.Ordering.{on, then_cmp}
use Rattle.sqlite_value.specs.Order.{Row, column, value_cmp}
use Rattle.sqlite_trees.specs.Tree.{Trees}
use Rattle.mqtt_store_tables.specs.declared.forms.schema.StoreTable.{StoreTable}
use Rattle.mqtt_store_tables.specs.declared.forms.schema.StoreTable.TheVariants.{Meta, Session, Will, Subscription, Inbound, Copy, Retained}
use Rattle.mqtt_store_tables.specs.declared.schema.tables.Making.{Making}
use Rattle.mqtt_store_tables.specs.declared.schema.tables.Making.TheVariants.{TakenOver}

abbrev pub select_text : StoreTable → List ℕ
select_text Meta = codes "SELECT name, n FROM meta ORDER BY name"
select_text Session = codes "SELECT birth, client, expiry, closed FROM session ORDER BY birth"
select_text Will = codes "SELECT birth, delay, topic, qos, retain, props, payload FROM will ORDER BY birth"
select_text Subscription = codes "SELECT birth, filter, place, qos, nolocal, rap, handling, ident FROM sub ORDER BY birth, place"
select_text Inbound = codes "SELECT birth, ident FROM inbound ORDER BY birth, ident"
select_text Copy = codes "SELECT birth, place, pub, cause, cause_text, cause_n, pid, phase, rel, topic, qos, retain, props, payload, arrived FROM copy ORDER BY birth, place"
select_text Retained = codes "SELECT place, topic, sender, pub, qos, props, payload, arrived FROM retained ORDER BY place"

-- the tree of the table's rows
abbrev pub tree_of : StoreTable → ℕ
tree_of Meta = 0
tree_of Session = 2
tree_of Will = 4
tree_of Subscription = 5
tree_of Inbound = 7
tree_of Copy = 9
tree_of Retained = 11

-- the table stands in schema 2 as well, at the same tree; that of copies, or of retained messages, if the store had schema 1
abbrev pub IsInSecond : StoreTable → Making → Type 0
IsInSecond Meta making = Unit {0}
IsInSecond Session making = Unit {0}
IsInSecond Will making = Unit {0}
IsInSecond Subscription making = Unit {0}
IsInSecond Inbound making = Unit {0}
IsInSecond Copy making = making ≡ TakenOver
IsInSecond Retained making = making ≡ TakenOver

-- where its columns stand in the tree's rows, which begin with their own number; a column that is that number stands there
abbrev pub columns_of : StoreTable → List ℕ
columns_of Meta = 1 ∷ 2 ∷ []
columns_of Session = 0 ∷ 2 ∷ 3 ∷ 4 ∷ []
columns_of Will = 0 ∷ 2 ∷ 3 ∷ 4 ∷ 5 ∷ 6 ∷ 7 ∷ []
columns_of Subscription = 1 ∷ 2 ∷ 3 ∷ 4 ∷ 5 ∷ 6 ∷ 7 ∷ 8 ∷ []
columns_of Inbound = 1 ∷ 2 ∷ []
columns_of Copy = 1 ∷ 2 ∷ 3 ∷ 4 ∷ 5 ∷ 6 ∷ 7 ∷ 8 ∷ 9 ∷ 10 ∷ 11 ∷ 12 ∷ 13 ∷ 14 ∷ 15 ∷ []
columns_of Retained = 0 ∷ 2 ∷ 3 ∷ 4 ∷ 5 ∷ 6 ∷ 7 ∷ 8 ∷ []

-- which of the columns are the key: meta by name, session and will by birth, sub and copy by birth and place, inbound by
-- birth and identifier, retained by place
abbrev pub key_of : StoreTable → List ℕ
key_of Meta = 0 ∷ []
key_of Session = 0 ∷ []
key_of Will = 0 ∷ []
key_of Subscription = 0 ∷ 2 ∷ []
key_of Inbound = 0 ∷ 1 ∷ []
key_of Copy = 0 ∷ 1 ∷ []
key_of Retained = 0 ∷ []

-- these columns of a row in a tree
abbrev pub shown_at : List ℕ → Row → Row
shown_at columns row = map (column row) columns

abbrev pub shown : StoreTable → Row → Row
shown table = shown_at (columns_of table)

-- by the first of the columns, and then by the next
abbrev pub by_columns : List ℕ → Row → Row → Ordering
by_columns [] a b = Equal
by_columns (at ∷ more) a b = then_cmp (on (λ row. column row at) value_cmp) (by_columns more) a b

-- these columns of all rows of a tree, each row once, in the order of those that are the key
pub record IsListingOf (columns key : List ℕ) (stored rows : List Row) : Type 0 where
  pub each : IsPermutation (map (shown_at columns) stored) rows
  pub sorted : IsSorted (by_columns key) rows

-- all rows of the table, in the order of its key
abbrev pub IsListing : StoreTable → Trees → List Row → Type 0
IsListing table db = IsListingOf (columns_of table) (key_of table) (db (tree_of table))

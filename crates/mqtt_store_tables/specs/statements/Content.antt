-- What stands in the tables, and when they are in order.
use Rattle.std.specs.Prelude.{◌≡◌, ℕ, ℤ, Bool, not, List, filter, IsTrue}
use Rattle.sqlite_value.specs.declared.value.Value.TheVariants.{Int, Text}
use Rattle.sqlite_value.specs.declared.keys.Collation.TheVariants.{Binary}
use Rattle.sqlite_value.specs.Order.{Row, column}
use Rattle.std.specs.List.{AllByRecursion}
use Rattle.sqlite_trees.specs.Tree.{Trees, IsTable, rowid}
use Rattle.sqlite_trees.specs.View.{is_int}
use Rattle.sqlite.specs.State.{State}
use Rattle.sqlite_schema.specs.Rules.{equal, Obeys}
use Rattle.mqtt_store_tables.specs.forms.Tables.{keep_schema}
use Rattle.mqtt_store_tables.specs.statements.Layout.{Layout, schema_of}

-- SQL finds the number in that place
abbrev pub is_of : ℕ → ℤ → Row → Bool
is_of at n r = equal Binary (column r at) (Int n)

-- SQL finds the text in that place
abbrev pub is_text : ℕ → List ℕ → Row → Bool
is_text at text r = equal Binary (column r at) (Text text)

abbrev pub without : ℕ → ℤ → List Row → List Row
without at n = filter (λ r. not (is_of at n r))

-- a table's rows rise by their numbers
pub record IsShapedAt (db : Trees) (t : ℕ) : Type 0 where
  pub up : IsTable (db t)
  pub ints : AllByRecursion (λ r. IsTrue (is_int (rowid r))) (db t)

pub record AreShaped (db : Trees) : Type 0 where
  pub session : IsShapedAt db 2
  pub will : IsShapedAt db 4
  pub sub : IsShapedAt db 5
  pub inbound : IsShapedAt db 7
  pub copy : IsShapedAt db 9

-- a transaction is under way over the tables of the layout, whose rows rise by their numbers
pub record IsWhole (l : Layout) (s : State) : Type 0 where
  pub schema : s.now.schema ≡ schema_of l
  pub inside : IsTrue s.in_transaction
  pub meta : IsShapedAt s.now.trees 0
  pub session : IsShapedAt s.now.trees 2
  pub will : IsShapedAt s.now.trees 4
  pub sub : IsShapedAt s.now.trees 5
  pub inbound : IsShapedAt s.now.trees 7
  pub behind : AllByRecursion (λ t. IsShapedAt s.now.trees t.tree) l.tables
  pub obeys : Obeys (schema_of l) s.now.trees

-- in schema 1, between two steps: all is committed, and the tables are in order
pub record IsSettled (s : State) : Type 0 where
  pub schema : s.now.schema ≡ keep_schema
  pub shaped : AreShaped s.now.trees
  pub meta : IsShapedAt s.now.trees 0
  pub retained : IsShapedAt s.now.trees 11
  pub obeys : Obeys keep_schema s.now.trees
  pub same : s.committed ≡ s.now
  pub is_open : IsTrue s.is_open

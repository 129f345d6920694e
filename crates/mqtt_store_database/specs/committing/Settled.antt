-- A database of schema 2 between two steps.
use Rattle.std.specs.Prelude.{◌≡◌, IsTrue}
use Rattle.std.specs.List.{AllByRecursion}
use Rattle.sqlite_schema.specs.Rules.{Obeys}
use Rattle.sqlite.specs.State.{State}
use Rattle.mqtt_store_tables.specs.declared.schema.tables.Making.{Making}
use Rattle.mqtt_store_tables.specs.statements.Content.{IsShapedAt}
use Rattle.mqtt_store_tables.specs.statements.Layout.{second_layout, schema_of}

-- all is committed, the tables stand, and their rows rise by their numbers
pub record IsSettled (making : Making) (s : State) : Type 0 where
  pub schema : s.now.schema ≡ schema_of (second_layout making)
  pub meta : IsShapedAt s.now.trees 0
  pub session : IsShapedAt s.now.trees 2
  pub will : IsShapedAt s.now.trees 4
  pub sub : IsShapedAt s.now.trees 5
  pub inbound : IsShapedAt s.now.trees 7
  pub behind : AllByRecursion (λ t. IsShapedAt s.now.trees t.tree) (second_layout making).tables
  pub obeys : Obeys (schema_of (second_layout making)) s.now.trees
  pub same : s.committed ≡ s.now
  pub is_open : IsTrue s.is_open

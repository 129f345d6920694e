-- What stands in a database behind the tables with which each schema of the store begins.
use Rattle.std.specs.Prelude.{◌≡◌, ◌⊎◌, ℕ, ◌≤◌, false, List, [], ◌∷◌, ◌++◌, drop, flat_map, filter_map, Option}
use Rattle.std.specs.List.{AllByRecursion, list_any}
use Rattle.sqlite_value.specs.Order.{Row}
use Rattle.sqlite_schema.specs.declared.schema.Schema.{Schema}
use Rattle.sqlite_schema.specs.declared.schema.Table.{Table}
use Rattle.sqlite_schema.specs.declared.schema.Index.{Index}
use Rattle.sqlite_schema.specs.declared.schema.Keys.TheVariants.{Enforced}
use Rattle.sqlite_rules.specs.Action.{Work, work_for}
use Rattle.sqlite_rules.specs.Edit.{IsNoIndex}
use Rattle.sqlite_rules.specs.Keys.{shares}
use Rattle.mqtt_store_tables.specs.forms.Tables.{keep_schema, meta, session, will, sub, inbound, copy, retained}
use Rattle.mqtt_store_tables.specs.forms.Creation.{first}
use Rattle.mqtt_store_tables.specs.schema.Tables.{tables_from, indexes_from}
use Rattle.mqtt_store_tables.specs.declared.schema.tables.Making.{Making}
use Rattle.mqtt_store_tables.specs.declared.schema.tables.Making.TheVariants.{New, TakenOver}

-- the tables behind meta, session, will, sub and inbound, and the indexes behind theirs
pub record Layout : Type 0 where
  pub tables : List Table
  pub indexes : List Index

abbrev pub schema_of : Layout → Schema
schema_of l = record { tables = (first 5).tables ++ l.tables; indexes = (first 5).indexes ++ l.indexes; views = [] }

-- what is set off in the tables behind, if rows leave a tree or others come into it
abbrev pub sets_off : Layout → ℕ → ℕ → List Row → List Row → List Work
sets_off l depth tree olds news = flat_map (λ child. filter_map (work_for (schema_of l) Enforced depth tree olds news child) child.references) l.tables

-- nothing is set off there by rows that go, or by one that comes
pub record IsChildless (l : Layout) (tree : ℕ) : Type 0 where
  pub out : (depth : ℕ) (olds : List Row) → sets_off l depth tree olds [] ≡ []
  pub put : (depth : ℕ) (olds : List Row) (new : Row) → sets_off l depth tree olds (new ∷ []) ≡ []

-- what is asked of what stands behind
pub record IsLayout (l : Layout) : Type 0 where
  -- no index behind lies at a tree of the first five tables or of their indexes, and no table behind at one of an index
  pub indexes : AllByRecursion (λ i. 9 ≤ i.tree) l.indexes
  pub tables : AllByRecursion (λ t. IsNoIndex (schema_of l) t.tree) l.tables
  -- no row of the five has a key of an index behind
  pub keyless : AllByRecursion (λ t. (target : Option (List ℕ)) (new row : Row) → list_any (shares target t new row) l.indexes ≡ false) (meta ∷ session ∷ will ∷ sub ∷ inbound ∷ [])
  -- of the five, only sessions are referred to, by their births, which never change
  pub childless : AllByRecursion (IsChildless l) (0 ∷ 4 ∷ 5 ∷ 7 ∷ [])
  pub unmoved : (olds : List Row) (new : Row) → sets_off l 0 2 olds (new ∷ []) ≡ []

-- schema 1
abbrev pub first_layout : Layout
first_layout = record { tables = copy ∷ retained ∷ []; indexes = drop 4 keep_schema.indexes }

-- schema 2, of a new database and of one that had schema 1
abbrev pub second_layout : Making → Layout
second_layout New = record { tables = tables_from 9; indexes = indexes_from 9 }
second_layout TakenOver = record { tables = copy ∷ retained ∷ tables_from 13; indexes = drop 4 keep_schema.indexes ++ indexes_from 13 }

-- one of the store's schemas
abbrev pub IsOurs : Layout → Type 0
IsOurs l = (l ≡ first_layout) ⊎ ((making : Making) × (l ≡ second_layout making))

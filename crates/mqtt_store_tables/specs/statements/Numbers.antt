-- A row of `meta`, and what sets its number.
use Rattle.std.specs.Prelude.{◌≡◌, ◌≢◌, ℕ, ℤ, pos, List, [], ◌∷◌}
use Rattle.sqlite_value.specs.declared.value.Value.TheVariants.{Int, Text}
use Rattle.sqlite_value.specs.Order.{Row}
use Rattle.sqlite_trees.specs.Tree.{Trees, put_row, without_rowid}
use Rattle.sqlite_rules.specs.Edit.{IsNoIndex}
use Rattle.mqtt_store_tables.specs.statements.Layout.{Layout, schema_of}

-- without the number that the table gives it
abbrev pub number_row : List ℕ → ℕ → Row
number_row name n = Text name ∷ Int (pos n) ∷ []

-- the row of this rowid has the new number, and all other rows are as they were
pub record SetsNumber (l : Layout) (name : List ℕ) (value : ℕ) (id : ℤ) (old new : Trees) : Type 0 where
  pub rows : new 0 ≡ put_row (Int id ∷ number_row name value) (without_rowid id (old 0))
  pub others : (t : ℕ) → t ≢ 0 → IsNoIndex (schema_of l) t → new t ≡ old t

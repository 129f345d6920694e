-- What a REPLACE leaves, and the rows that are put.
use Rattle.std.specs.Prelude.{◌≡◌, ◌≢◌, ℕ, pos, Bool, false, not, ◌||◌, List, [], ◌∷◌, filter}
use Rattle.std.specs.Ordering.{is_eq}
use Rattle.sqlite_value.specs.declared.value.Value.TheVariants.{Int}
use Rattle.sqlite_value.specs.Order.{Row, value_cmp}
use Rattle.sqlite_trees.specs.Tree.{Trees, rowid, put_row}
use Rattle.sqlite_rules.specs.Lists.{Has}
use Rattle.sqlite_rules.specs.Edit.{IsNoIndex, next_rowid}
use Rattle.mqtt_store_tables.specs.statements.Layout.{Layout, schema_of}
use Rattle.mqtt_store_tables.specs.statements.Content.{is_of, is_text}

-- the row stands in the table, these rows are out of it, and all other rows are as they were
pub record PutsInto (l : Layout) (tree : ℕ) (put : Row) (gone : Row → Bool) (old new : Trees) : Type 0 where
  pub rows : new tree ≡ put_row put (filter (λ r. not (gone r)) (old tree))
  pub others : (t : ℕ) → t ≢ tree → IsNoIndex (schema_of l) t → new t ≡ old t

-- a row behind the number that its table gives it
abbrev pub numbered : ℕ → Row → Trees → Row
numbered tree row db = Int (next_rowid (db tree)) ∷ row

-- the row is put behind the number that the table gives it
abbrev pub PutsNumbered : Layout → ℕ → Row → (Row → Bool) → Trees → Trees → Type 0
PutsNumbered l tree row gone old new = PutsInto l tree (numbered tree row old) gone old new

abbrev pub open_row : ℕ → ℕ → Row
open_row birth identifier = Int (pos birth) ∷ Int (pos identifier) ∷ []

-- the retained messages at that place, and to that topic
abbrev pub is_retained : ℕ → List ℕ → Row → Bool
is_retained place topic r = is_of 0 (pos place) r || is_text 2 topic r

-- no row that stays has the number of the row that is put
abbrev pub IsFree : Row → (Row → Bool) → List Row → Type 0
IsFree put gone rows = (r : Row) → Has rows r → gone r ≡ false → is_eq (value_cmp (rowid r) (rowid put)) ≡ false

-- What a DELETE by key leaves.
use Rattle.std.specs.Prelude.{◌≡◌, ◌≢◌, ℕ, ℤ, Bool, not, ◌&&◌, List, filter}
use Rattle.sqlite_value.specs.Order.{Row}
use Rattle.sqlite_trees.specs.Tree.{Trees}
use Rattle.sqlite_rules.specs.Edit.{IsNoIndex}
use Rattle.mqtt_store_tables.specs.statements.Layout.{Layout, schema_of}
use Rattle.mqtt_store_tables.specs.statements.Content.{is_of, is_text}

-- the session's row of that number, in a table whose key is both
abbrev pub is_keyed : ℤ → ℤ → Row → Bool
is_keyed birth n r = is_of 1 birth r && is_of 2 n r

-- the session's subscription to that filter
abbrev pub is_subscription : ℤ → List ℕ → Row → Bool
is_subscription birth text r = is_of 1 birth r && is_text 2 text r

-- these rows are out of the table, and all other rows are as they were
pub record RemovesFrom (l : Layout) (tree : ℕ) (gone : Row → Bool) (old new : Trees) : Type 0 where
  pub rows : new tree ≡ filter (λ r. not (gone r)) (old tree)
  pub others : (t : ℕ) → t ≢ tree → IsNoIndex (schema_of l) t → new t ≡ old t

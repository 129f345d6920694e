-- The numbers that a question finds are those of the rows that pass.
use Rattle.std.proofs.Common.{◌≡◌, ℕ, pos, Bool, true, List, [], ◌∷◌, filter, map, subst, inl, inr, Option, Some, None}
use Rattle.sqlite_value.specs.declared.value.Value.TheVariants.{Int}
use Rattle.sqlite_value.specs.Order.{Row, column}
use Rattle.sqlite_trees.specs.Tree.{Trees}
use Rattle.sqlite_rules.specs.Lists.{Has}
use Rattle.sqlite_rules.proofs.ListLemmas.{has_kept}
use Rattle.mqtt_store_tables.proofs.statements_lemmas.deletes.Removal.{map_has}
use Rattle.mqtt_store_tables.proofs.statements_lemmas.tables.Rows.{has_permuted}
use Rattle.mqtt_store_tables.specs.messages.References.{as_row, as_rows, Finds, FindsAll}
use Rattle.mqtt_records.specs.state.Members.{Has as HasItem}
use Rattle.mqtt_store_database.specs.item_laws.Members.{listed}
use Rattle.mqtt_store_database.proofs.item_laws_lemmas.tables.Keys.{same_number}

in_row : (found : Option ℕ) (n : ℕ) → Has (as_row found) (Int (pos n)) → HasItem (listed found) n
in_row None n h = absurd h
in_row (Some m) n (inl same) = inl (same_number same)
in_row (Some m) n (inr none) = absurd none

in_rows : (found : List ℕ) (n : ℕ) → Has (as_rows found) (Int (pos n)) → HasItem found n
in_rows [] n h = absurd h
in_rows (m ∷ found) n (inl same) = inl (same_number same)
in_rows (m ∷ found) n (inr later) = inr (in_rows found n later)

module _ (tree at : ℕ) (passes : Row → Bool) (db : Trees) (row : Row) (there : Has (db tree) row) (pass : passes row ≡ true) (n : ℕ) (shows : column row at ≡ Int (pos n)) where
  shown : Has (map (λ r. column r at) (filter passes (db tree))) (Int (pos n))
  shown = subst (Has (map (λ r. column r at) (filter passes (db tree)))) shows (map_has (λ r. column r at) (filter passes (db tree)) row (has_kept passes (db tree) row there pass))

  -- the number in a row that passes is the one that is found
  pub found_one : (found : Option ℕ) → Finds tree at passes found db → HasItem (listed found) n
  found_one found finds = in_row found n (subst (λ (values : Row). Has values (Int (pos n))) finds shown)

  -- the number in a row that passes is among those that are found
  pub found_all : (found : List ℕ) → FindsAll tree at passes found db → HasItem found n
  found_all found finds = in_rows found n (has_permuted (map (λ r. column r at) (filter passes (db tree))) (as_rows found) (Int (pos n)) finds shown)

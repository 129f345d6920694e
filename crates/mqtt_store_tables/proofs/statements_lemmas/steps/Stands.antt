-- Which rows stand after a statement.
use Rattle.std.proofs.Common.{◌≡◌, ◌⊎◌, ℕ, ℤ, Bool, true, false, not, List, [], ◌∷◌, filter, refl, sym, ap, ◌∙◌, subst, inl, inr, true≢false}
use Rattle.std.specs.Ordering.{is_eq}
use Rattle.std.proofs.lemmas.Bool.{false_from_ne_true, and_from}
use Rattle.sqlite_value.specs.declared.value.Value.TheVariants.{Int}
use Rattle.sqlite_value.specs.Order.{Row, value_cmp}
use Rattle.sqlite_trees.specs.Tree.{Trees, rowid, put_row}
use Rattle.sqlite_rules.specs.Lists.{Has}
use Rattle.sqlite_rules.specs.Edit.{next_rowid, is_taken}
use Rattle.sqlite_rules.proofs.ListLemmas.{all_has, some_has, has_filtered, has_kept}
use Rattle.sqlite_rules.proofs.TableLemmas.{has_put, put_has, put_all_keeps}
use Rattle.mqtt_store_tables.specs.statements.Layout.{Layout}
use Rattle.mqtt_store_tables.specs.statements.Content.{is_of, IsShapedAt}
use Rattle.mqtt_store_tables.specs.statements.Removal.{RemovesFrom}
use Rattle.mqtt_store_tables.specs.statements.Put.{PutsInto, numbered, IsFree}
use Rattle.mqtt_store_tables.proofs.statements_lemmas.deletes.RemoveSession.{equal_ids}
use Rattle.mqtt_store_tables.proofs.statements_lemmas.tables.Fresh.{apart}

untrue : (b : Bool) → not b ≡ true → b ≡ false
untrue true h = absurd (true≢false (sym h))
untrue false h = refl

module _ (gone : Row → Bool) (rows : List Row) (x : Row) where
  stays_new : Has (filter (λ r. not (gone r)) rows) x → Has rows x × (gone x ≡ false)
  stays_new h = let it = has_filtered (λ r. not (gone r)) rows x h in (it.0, untrue (gone x) it.1)

  stays_old : Has rows x × (gone x ≡ false) → Has (filter (λ r. not (gone r)) rows) x
  stays_old it = has_kept (λ r. not (gone r)) rows x it.0 (ap not it.1)

module _ (l : Layout) (tree : ℕ) (gone : Row → Bool) (before after : Trees) (x : Row) where
  -- after rows are removed, one that stands did before and was not of them
  pub removed_new : RemovesFrom l tree gone before after → Has (after tree) x → Has (before tree) x × (gone x ≡ false)
  removed_new h there = stays_new gone (before tree) x (subst (λ (rows : List Row). Has rows x) h.rows there)

  -- after rows are removed, those that were not of them stand
  pub removed_old : RemovesFrom l tree gone before after → Has (before tree) x × (gone x ≡ false) → Has (after tree) x
  removed_old h it = subst (λ (rows : List Row). Has rows x) (sym h.rows) (stays_old gone (before tree) x it)

  module _ (put : Row) where
    -- after a row is put, one that stands is that, or stood before and made no way
    pub put_new : PutsInto l tree put gone before after → Has (after tree) x → (x ≡ put) ⊎ (Has (before tree) x × (gone x ≡ false))
    put_new h there = elim (put_has put (filter (λ r. not (gone r)) (before tree)) x (subst (λ (rows : List Row). Has rows x) h.rows there)) [
      | inl same ↦ inl same
      | inr stays ↦ inr (stays_new gone (before tree) x stays)
    ]

    untaken : IsFree put gone (before tree) → is_taken (filter (λ r. not (gone r)) (before tree)) put ≡ false
    untaken free = false_from_ne_true _ (λ taken.
        let one = some_has (λ r. is_eq (value_cmp (rowid r) (rowid put))) (filter (λ r. not (gone r)) (before tree)) taken in
        let it = has_filtered (λ r. not (gone r)) (before tree) one.0 one.1 in
        true≢false (sym one.2 ∙ free one.0 it.0 (untrue (gone one.0) it.1)))

    -- after a row is put, that one stands and those that made no way do
    pub put_old : PutsInto l tree put gone before after → IsFree put gone (before tree) → (x ≡ put) ⊎ (Has (before tree) x × (gone x ≡ false)) → Has (after tree) x
    put_old h free it =
        let rest = filter (λ r. not (gone r)) (before tree) in
        subst (λ (rows : List Row). Has rows x) (sym h.rows) (elim it [
          | inl same ↦ subst (Has (put_row put rest)) (sym same) (has_put put rest)
          | inr old ↦ put_all_keeps (put ∷ []) rest x (and_from _ _ (ap not (untaken free)) refl) (stays_old gone (before tree) x old)
        ])

-- the number that the table gives a new row is no other row's
pub given_free : (tree : ℕ) (row : Row) (gone : Row → Bool) (db : Trees) → IsShapedAt db tree → IsFree (numbered tree row db) gone (db tree)
given_free tree row gone db shaped r h stays = sym (equal_ids (rowid r) (next_rowid (db tree)) (all_has _ (db tree) r shaped.ints h)) ∙ apart db tree r shaped h

-- a key that is the row's number is free once the rows with it are gone
pub key_free : (tree : ℕ) (n : ℤ) (rest : Row) (gone : Row → Bool) (db : Trees) → IsShapedAt db tree → ((r : Row) → gone r ≡ false → is_of 0 n r ≡ false) → IsFree (Int n ∷ rest) gone (db tree)
key_free tree n rest gone db shaped out r h stays = sym (equal_ids (rowid r) n (all_has _ (db tree) r shaped.ints h)) ∙ out r stays

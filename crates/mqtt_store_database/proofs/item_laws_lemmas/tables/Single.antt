-- In the tables in which rows are set no two rows have the same key, whatever is put, set or removed.
use Rattle.std.proofs.Common.{◌≡◌, ℕ, Bool, false, not, List, filter, sym, subst, ◌∙◌, ap, inl, inr}
use Rattle.sqlite_value.specs.Order.{Row, column}
use Rattle.sqlite_trees.specs.Tree.{Trees}
use Rattle.sqlite_rules.specs.Lists.{Has}
use Rattle.sqlite_rules.proofs.ListLemmas.{has_filtered}
use Rattle.mqtt_store_tables.specs.statements.Layout.{Layout}
use Rattle.mqtt_store_tables.specs.statements.Put.{PutsInto}
use Rattle.mqtt_store_tables.proofs.statements_lemmas.steps.Stands.{put_new}
use Rattle.mqtt_store_database.proofs.item_laws_lemmas.tables.Kept.{Named, Placed}

module _ {l : Layout} (tree : ℕ) (put : Row) (gone : Row → Bool) (old new : Trees) (h : PutsInto l tree put gone old new) where
  -- a row with a name of its own, put into a table of numbers, leaves no two with one name
  pub named_put : ((b : Row) → Has (old tree) b → gone b ≡ false → column b 1 ≡ column put 1 → ⊥) → Named (old tree) → Named (new tree)
  named_put apart was a b ha hb same = elim (put_new l tree gone old new a put h ha) [
    | inl here ↦ elim (put_new l tree gone old new b put h hb) [
      | inl both ↦ here ∙ sym both
      | inr old_b ↦ absurd (apart b old_b.0 old_b.1 (sym same ∙ ap (λ (r : Row). column r 1) here))
    ]
    | inr old_a ↦ elim (put_new l tree gone old new b put h hb) [
      | inl there ↦ absurd (apart a old_a.0 old_a.1 (same ∙ ap (λ (r : Row). column r 1) there))
      | inr old_b ↦ was a b old_a.0 old_b.0 same
    ]
  ]

  -- a row with a session and place of its own, put into the table of copies, leaves no two with one
  pub placed_put : ((b : Row) → Has (old tree) b → gone b ≡ false → column b 1 ≡ column put 1 → column b 2 ≡ column put 2 → ⊥) → Placed (old tree) → Placed (new tree)
  placed_put apart was a b ha hb one two = elim (put_new l tree gone old new a put h ha) [
    | inl here ↦ elim (put_new l tree gone old new b put h hb) [
      | inl both ↦ here ∙ sym both
      | inr old_b ↦ absurd (apart b old_b.0 old_b.1 (sym one ∙ ap (λ (r : Row). column r 1) here) (sym two ∙ ap (λ (r : Row). column r 2) here))
    ]
    | inr old_a ↦ elim (put_new l tree gone old new b put h hb) [
      | inl there ↦ absurd (apart a old_a.0 old_a.1 (one ∙ ap (λ (r : Row). column r 1) there) (two ∙ ap (λ (r : Row). column r 2) there))
      | inr old_b ↦ was a b old_a.0 old_b.0 one two
    ]
  ]

-- rows that are left when others went have no two with one session and place
pub placed_left : (gone : Row → Bool) (old new : List Row) → new ≡ filter (λ r. not (gone r)) old → Placed old → Placed new
placed_left gone old new same was a b ha hb one two =
    let back = λ (x : Row) (there : Has new x). (has_filtered (λ r. not (gone r)) old x (subst (λ (l : List Row). Has l x) same there)).0 in
    was a b (back a ha) (back b hb) one two

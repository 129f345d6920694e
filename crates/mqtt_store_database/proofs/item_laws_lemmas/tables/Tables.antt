-- A table's rows and its items, when a row is put, when rows go, and when nothing is done to it.
use Rattle.std.proofs.Common.{◌≡◌, ◌⊎◌, ℕ, Bool, true, false, not, List, filter, ap, sym, subst, inl, inr, true≢false, refl}
use Rattle.sqlite_value.specs.Order.{Row}
use Rattle.sqlite_trees.specs.Tree.{Trees}
use Rattle.sqlite_rules.specs.Lists.{Has}
use Rattle.sqlite_rules.proofs.ListLemmas.{has_filtered, has_kept}
use Rattle.mqtt_store_tables.specs.statements.Layout.{Layout}
use Rattle.mqtt_store_tables.specs.statements.Put.{PutsInto, IsFree}
use Rattle.mqtt_store_tables.proofs.statements_lemmas.steps.Stands.{put_new, put_old}
use Rattle.mqtt_store_database.specs.item_laws.Written.{AreWritten}

untrue : (b : Bool) → not b ≡ true → b ≡ false
untrue true h = absurd (true≢false (sym h))
untrue false h = refl

module _ {X : Type 0} (IsRow : X → Row → Type 0) (Item Next : X → Type 0) where
  -- nothing is done to the table, nor to its items
  pub unchanged : (old new : List Row) → new ≡ old → ((x : X) → Next x → Item x) → ((x : X) → Item x → Next x) → AreWritten IsRow Item old → AreWritten IsRow Next new
  unchanged old new same to back w = record {
    each = λ x n. let it = w.each x (to x n) in (it.0, subst (λ (l : List Row). Has l it.0) (sym same) it.1, it.2);
    only = λ row h. let it = w.only row (subst (λ (l : List Row). Has l row) same h) in (it.0, back it.0 it.1, it.2);
  }

  -- which rows go, and which items
  module _ (Other : X → Type 0) (gone : Row → Bool) (old : List Row)
      (out : (x : X) (row : Row) → Item x → Has old row → IsRow x row → gone row ≡ false → Other x)
      (stay : (x : X) (row : Row) → Item x → Has old row → IsRow x row → Other x → gone row ≡ false)
      (written : AreWritten IsRow Item old) where
    -- a table without the rows that went is written with the items that stay
    pub without_rows : (new : List Row) → new ≡ filter (λ r. not (gone r)) old → ((x : X) → Next x → Item x × Other x) → ((x : X) → Item x × Other x → Next x)
        → AreWritten IsRow Next new
    without_rows new same to back = record {
      each = λ x n.
          let was = to x n in
          let it = written.each x was.0 in
          let stays = has_kept (λ r. not (gone r)) old it.0 it.1 (ap not (stay x it.0 was.0 it.1 it.2 was.1)) in
          (it.0, subst (λ (l : List Row). Has l it.0) (sym same) stays, it.2);
      only = λ row h.
          let there = has_filtered (λ r. not (gone r)) old row (subst (λ (l : List Row). Has l row) same h) in
          let it = written.only row there.0 in
          (it.0, back it.0 (it.1, out it.0 row it.1 there.0 it.2 (untrue (gone row) there.1)), it.2);
    }

    -- a row is put: that of each new item
    pub with_row : {l : Layout} (New : X → Type 0) (tree : ℕ) (put : Row) (before after : Trees) → before tree ≡ old → PutsInto l tree put gone before after → IsFree put gone (before tree)
        → (x : X) × New x → ((x : X) → New x → IsRow x put) → ((x : X) → Next x → New x ⊎ (Item x × Other x)) → ((x : X) → New x ⊎ (Item x × Other x) → Next x)
        → AreWritten IsRow Next (after tree)
    with_row New tree put before after is h free some says to back = record {
      each = λ x n. elim (to x n) [
        | inl new ↦ (put, put_old _ tree gone before after put put h free (inl refl), says x new)
        | inr was ↦
            let it = written.each x was.0 in
            let there = subst (λ (l : List Row). Has l it.0) (sym is) it.1 in
            (it.0, put_old _ tree gone before after it.0 put h free (inr (there, stay x it.0 was.0 it.1 it.2 was.1)), it.2)
      ];
      only = λ row h_row. elim (put_new _ tree gone before after row put h h_row) [
        | inl same ↦ (some.0, back some.0 (inl some.1), subst (IsRow some.0) (sym same) (says some.0 some.1))
        | inr was ↦
            let there = subst (λ (l : List Row). Has l row) is was.0 in
            let it = written.only row there in
            (it.0, back it.0 (inr (it.1, out it.0 row it.1 there it.2 was.1)), it.2)
      ];
    }

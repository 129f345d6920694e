-- Rows that show the lines of items, in tables that obey their schema, are those that are written from them.
use Rattle.std.proofs.Common.{◌≡◌, ℕ, pos, refl, ap, ◌∙◌, inl, inr}
use Rattle.std.specs.Prelude.{Some, None}
use Rattle.std.proofs.lemmas.Bool.{and_from}
use Rattle.sqlite_value.specs.declared.value.Value.TheVariants.{Int}
use Rattle.sqlite_value.specs.Order.{Row, column}
use Rattle.sqlite_trees.specs.Tree.{Trees, rowid}
use Rattle.sqlite_schema.specs.Rules.{Obeys}
use Rattle.sqlite_rules.specs.Edit.{id_in}
use Rattle.sqlite_rules.specs.Lists.{Has}
use Rattle.mqtt_records.specs.declared.messages.message.RetainedMessage.{RetainedMessage}
use Rattle.mqtt_records.specs.messages.Queue.{CopyRow}
use Rattle.mqtt_records.specs.declared.state.records.Records.{Records}
use Rattle.mqtt_store_tables.specs.forms.Tables.{keep_schema, copy, retained}
use Rattle.mqtt_store_tables.specs.declared.forms.schema.StoreTable.TheVariants.{Copy, Retained}
use Rattle.mqtt_store_tables.specs.statements.Layout.{first_layout}
use Rattle.mqtt_store_tables.proofs.statements_lemmas.tables.Numbers.{one_copy, own_number}
use Rattle.mqtt_store_database.specs.asking.Listing.{shown}
use Rattle.mqtt_store_database.specs.taking_over.Items.{IsCopyRow, IsRetainedRow}
use Rattle.mqtt_store_database.specs.taking_over.Written.{HasRows, AreAllSingle, AreInOrder, KeepsRows}
use Rattle.mqtt_store_database.proofs.found_lemmas.both.Exact.{by_columns, typed_row, as_long, key_null, something, int_there, int_of, numbered_is, keyed_is}
use Rattle.mqtt_store_database.proofs.found_lemmas.both.Lines.{copy_line, retained_line}
use Rattle.mqtt_store_database.proofs.found_lemmas.both.Table.{rewritten}
use Rattle.mqtt_store_database.proofs.found_lemmas.both.First.{first_written, names_single}
use Rattle.mqtt_store_database.proofs.taking_over_lemmas.found.Alike.{HasLines, AreDistinct, rows_lined}

-- ---- rows that show lines are written from the items

module _ (db : Trees) (obeys : Obeys keep_schema db) (order : AreInOrder db) where
  copy_written : (x : ℕ × CopyRow) (row : Row) → Has (db 9) row → shown Copy row ≡ copy_line x → IsCopyRow x row
  copy_written x row h is =
      let last : column row 15 ≡ Int (pos x.1.copy.content.arrived) = ap (λ (l : Row). column l 14) is in
      let long = as_long None copy.columns row (typed_row keep_schema db copy row obeys (inr (inr (inr (inr (inr (inl refl)))))) h) (something _ _ last (int_there x.1.copy.content.arrived)) in
      (id_in (rowid row), numbered_is row (shown Copy row) (copy_line x) (by_columns 16 row long) is (int_of db 9 row order.shaped.copy h))

  retained_written : (m : RetainedMessage) (row : Row) → Has (db 11) row → shown Retained row ≡ retained_line m → IsRetainedRow m row
  retained_written m row h is =
      let typed = typed_row keep_schema db retained row obeys (inr (inr (inr (inr (inr (inr (inl refl))))))) h in
      let last : column row 8 ≡ Int (pos m.content.arrived) = ap (λ (l : Row). column l 7) is in
      let long = as_long (Some 0) retained.columns row typed (something _ _ last (int_there m.content.arrived)) in
      keyed_is row (shown Retained row) (retained_line m) (by_columns 9 row long) (key_null retained.columns row typed) is

  rows_written : (r : Records) → HasLines db r → HasRows db r
  rows_written r h =
      let first = first_written first_layout db obeys order.meta order.shaped.sub order.shaped.inbound 1 r h.first in
      record {
        meta = first.meta;
        sessions = first.sessions;
        wills = first.wills;
        subscriptions = first.subscriptions;
        inbound = first.inbound;
        copies = rewritten _ IsCopyRow _ _ copy_written h.copies;
        retained = rewritten _ IsRetainedRow _ _ retained_written h.retained;
      }

  -- ---- no two rows have one key

  singles : (r : Records) → HasLines db r → AreAllSingle db
  singles r h = record {
    numbers = names_single first_layout db obeys order.meta order.shaped.sub order.shaped.inbound 1 r h.first;
    copies = λ a b ha hb same place.
        let it = h.copies.only b hb in
        let first : column b 1 ≡ Int (pos it.0.0) = ap (λ (l : Row). column l 0) it.2 in
        let second : column b 2 ≡ Int (pos it.0.1.place) = ap (λ (l : Row). column l 1) it.2 in
        one_copy db it.0.0 it.0.1.place a b obeys order.shaped.copy ha hb
        (rw (same ∙ first, place ∙ second) (and_from _ _ (own_number it.0.0) (own_number it.0.1.place)))
        (rw (first, second) (and_from _ _ (own_number it.0.0) (own_number it.0.1.place)));
  }

  -- records whose lines the tables show are those that the tables are written from
  pub distinct_kept : (r : Records) → AreDistinct db r → KeepsRows db r
  distinct_kept r h = record {
    rows = rows_written r h.lines;
    single = singles r h.lines;
    ordered = h.ordered;
    by_place = h.by_place;
    sayable = h.sayable;
  }

-- ---- and back

-- records that the tables are written from are told apart by the lines that these show
pub kept_distinct : (db : Trees) (r : Records) → KeepsRows db r → AreDistinct db r
kept_distinct db r h = record { lines = rows_lined db r h.rows; ordered = h.ordered; by_place = h.by_place; sayable = h.sayable }

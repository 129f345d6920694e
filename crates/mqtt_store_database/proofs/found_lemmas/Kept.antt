-- Rows that show the lines of items, in tables that obey schema 2, are those that are written from them.
use Rattle.std.proofs.Common.{◌≡◌, ℕ, pos, refl, sym, ap, subst, ◌∙◌, inl, inr}
use Rattle.std.specs.Prelude.{Some, None}
use Rattle.std.proofs.lemmas.Bool.{and_from}
use Rattle.sqlite_value.specs.declared.value.Value.TheVariants.{Int, Blob}
use Rattle.sqlite_value.specs.Order.{Row, column}
use Rattle.sqlite_trees.specs.Tree.{Trees, rowid}
use Rattle.sqlite_schema.specs.declared.schema.Schema.{Schema}
use Rattle.sqlite_schema.specs.Rules.{Obeys}
use Rattle.sqlite_rules.specs.Edit.{id_in}
use Rattle.sqlite_rules.specs.Lists.{Has}
use Rattle.mqtt_records.specs.declared.messages.message.RetainedMessage.{RetainedMessage}
use Rattle.mqtt_records.specs.messages.Queue.{CopyRow}
use Rattle.mqtt_records.specs.declared.state.records.Records.{Records}
use Rattle.mqtt_records.specs.state.Contents.{StoredMessage}
use Rattle.mqtt_store_tables.specs.schema.Tables.{message, queued, kept, second_schema}
use Rattle.mqtt_store_tables.specs.declared.schema.tables.Making.{Making}
use Rattle.mqtt_store_tables.specs.declared.schema.tables.Making.TheVariants.{New, TakenOver}
use Rattle.mqtt_store_tables.specs.statements.Layout.{schema_of, second_layout}
use Rattle.mqtt_store_tables.proofs.statements_lemmas.tables.Second.{is_second}
use Rattle.mqtt_store_tables.proofs.statements_lemmas.tables.Numbers.{own_number}
use Rattle.mqtt_store_tables.specs.messages.Places.{message_tree, queued_tree, kept_tree}
use Rattle.mqtt_store_tables.proofs.messages_lemmas.Behind.{queued_listed}
use Rattle.mqtt_store_tables.proofs.messages_lemmas.SetQueued.{one_queued}
use Rattle.mqtt_store_database.proofs.found_lemmas.both.Exact.{by_columns, typed_row, as_long, key_null, something, int_there, blob_there, int_of, numbered_is, keyed_is}
use Rattle.mqtt_store_database.proofs.found_lemmas.both.Table.{rewritten}
use Rattle.mqtt_store_database.proofs.found_lemmas.both.First.{first_written, names_single}
use Rattle.mqtt_store_database.specs.row_laws.Items.{IsMessageRow, IsQueuedRow, IsKeptRow}
use Rattle.mqtt_store_database.specs.row_laws.Written.{HasNoOldRows, HasRowsTwo, AreAllSingleTwo, AreInOrderTwo, KeepsRowsTwo}
use Rattle.mqtt_store_database.specs.declared.reading.reading.AddedTable.TheVariants.{Message, Queued, Kept}
use Rattle.mqtt_store_database.proofs.found_lemmas.Lines.{shown, message_line, queued_line, kept_line}
use Rattle.mqtt_store_database.proofs.found_lemmas.Alike.{HasLines, AreDistinct, rows_lined}

-- ---- the tables stand in their schema

message_listed : (making : Making) → Has (schema_of (second_layout making)).tables (message (message_tree making))
message_listed New = inr (inr (inr (inr (inr (inl refl)))))
message_listed TakenOver = inr (inr (inr (inr (inr (inr (inr (inl refl)))))))

kept_listed : (making : Making) → Has (schema_of (second_layout making)).tables (kept (kept_tree making))
kept_listed New = inr (inr (inr (inr (inr (inr (inr (inl refl)))))))
kept_listed TakenOver = inr (inr (inr (inr (inr (inr (inr (inr (inr (inl refl)))))))))

module _ (making : Making) (db : Trees) (obeys : Obeys (schema_of (second_layout making)) db) (order : AreInOrderTwo making db) where
  -- ---- one row

  message_written : (m : StoredMessage) (row : Row) → Has (db (message_tree making)) row → shown Message row ≡ message_line m → IsMessageRow m row
  message_written m row h is =
      let typed = typed_row (schema_of (second_layout making)) db (message (message_tree making)) row obeys (message_listed making) h in
      let last : column row 4 ≡ Blob m.payload = ap (λ (l : Row). column l 3) is in
      let long = as_long (Some 0) (message (message_tree making)).columns row typed (something _ _ last (blob_there m.payload)) in
      keyed_is row (shown Message row) (message_line m) (by_columns 5 row long) (key_null (message (message_tree making)).columns row typed) is

  queued_written : (x : ℕ × CopyRow) (row : Row) → Has (db (queued_tree making)) row → shown Queued row ≡ queued_line x → IsQueuedRow x row
  queued_written x row h is =
      let last : column row 13 ≡ Int (pos x.1.copy.content.arrived) = ap (λ (l : Row). column l 12) is in
      let typed = typed_row (schema_of (second_layout making)) db (queued (queued_tree making)) row obeys (queued_listed making) h in
      let long = as_long None (queued (queued_tree making)).columns row typed (something _ _ last (int_there x.1.copy.content.arrived)) in
      (id_in (rowid row), numbered_is row (shown Queued row) (queued_line x) (by_columns 14 row long) is (int_of db (queued_tree making) row order.queued h))

  kept_written : (m : RetainedMessage) (row : Row) → Has (db (kept_tree making)) row → shown Kept row ≡ kept_line m → IsKeptRow m row
  kept_written m row h is =
      let typed = typed_row (schema_of (second_layout making)) db (kept (kept_tree making)) row obeys (kept_listed making) h in
      let last : column row 6 ≡ Int (pos m.content.arrived) = ap (λ (l : Row). column l 5) is in
      let long = as_long (Some 0) (kept (kept_tree making)).columns row typed (something _ _ last (int_there m.content.arrived)) in
      keyed_is row (shown Kept row) (kept_line m) (by_columns 7 row long) (key_null (kept (kept_tree making)).columns row typed) is

  -- ---- all tables

  rows_written : (r : Records) → HasNoOldRows making db → HasLines making db r → HasRowsTwo making db r
  rows_written r old h =
      let first = first_written (second_layout making) db obeys order.meta order.sub order.inbound 2 r h.first in
      record {
        meta = first.meta;
        sessions = first.sessions;
        wills = first.wills;
        subscriptions = first.subscriptions;
        inbound = first.inbound;
        messages = rewritten _ IsMessageRow _ _ message_written h.messages;
        queued = rewritten _ IsQueuedRow _ _ queued_written h.queued;
        kept = rewritten _ IsKeptRow _ _ kept_written h.kept;
        old = old;
      }

  -- no two rows have one key
  singles : (r : Records) → HasLines making db r → AreAllSingleTwo making db
  singles r h = record {
    numbers = names_single (second_layout making) db obeys order.meta order.sub order.inbound 2 r h.first;
    queued = λ a b ha hb same place.
        let it = h.queued.only b hb in
        let first : column b 1 ≡ Int (pos it.0.0) = ap (λ (l : Row). column l 0) it.2 in
        let second : column b 2 ≡ Int (pos it.0.1.place) = ap (λ (l : Row). column l 1) it.2 in
        one_queued making db it.0.0 it.0.1.place a b obeys order.queued ha hb
        (rw (same ∙ first, place ∙ second) (and_from _ _ (own_number it.0.0) (own_number it.0.1.place)))
        (rw (first, second) (and_from _ _ (own_number it.0.0) (own_number it.0.1.place)));
  }

-- records whose lines the tables show are those that the tables are written from, if schema 1's have no rows
pub distinct_kept : (making : Making) (db : Trees) → Obeys (second_schema making) db → AreInOrderTwo making db → (r : Records) → HasNoOldRows making db → AreDistinct making db r → KeepsRowsTwo making db r
distinct_kept making db obeys order r old h =
    let laid = subst (λ (s : Schema). Obeys s db) (sym (is_second making).0) obeys in
    record {
      rows = rows_written making db laid order r old h.lines;
      single = singles making db laid order r h.lines;
      ordered = h.ordered;
      by_place = h.by_place;
      sayable = h.sayable;
      shared = h.shared;
    }

-- ---- and back

-- records that the tables are written from are told apart by the lines that these show
pub kept_distinct : (making : Making) (db : Trees) (r : Records) → KeepsRowsTwo making db r → AreDistinct making db r
kept_distinct making db r h = record { lines = rows_lined making db r h.rows; ordered = h.ordered; by_place = h.by_place; sayable = h.sayable; shared = h.shared }

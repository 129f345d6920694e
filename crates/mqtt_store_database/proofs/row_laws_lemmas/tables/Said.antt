-- The table of messages after a message is put, unless one of its number stands.
use Rattle.std.proofs.Common.{◌≡◌, ◌⊎◌, pos, Bool, true, false, not, List, [], ◌∷◌, refl, sym, ap, ◌∙◌, subst, inl, inr, true≢false}
use Rattle.std.specs.List.{list_any}
use Rattle.std.specs.Ordering.{is_eq}
use Rattle.std.proofs.lemmas.Bool.{cases_Bool, false_from_ne_true, and_from}
use Rattle.sqlite_value.specs.declared.value.Value.TheVariants.{Int}
use Rattle.sqlite_value.specs.Order.{Row, column, value_cmp}
use Rattle.sqlite_trees.specs.Tree.{Trees, rowid, put_row}
use Rattle.sqlite_rules.specs.Edit.{is_taken}
use Rattle.sqlite_rules.proofs.ListLemmas.{all_has, some_has, some_from}
use Rattle.sqlite_rules.proofs.TableLemmas.{has_put, put_has, put_all_keeps}
use Rattle.mqtt_store_tables.specs.declared.schema.tables.Making.{Making}
use Rattle.mqtt_store_tables.specs.statements.Content.{is_of, IsShapedAt}
use Rattle.mqtt_store_tables.proofs.statements_lemmas.deletes.RemoveSession.{equal_ids}
use Rattle.mqtt_store_tables.specs.messages.Places.{message_tree}
use Rattle.mqtt_store_tables.specs.messages.Rows.{message_row}
use Rattle.mqtt_store_database.specs.item_laws.Written.{AreWritten}
use Rattle.mqtt_store_database.proofs.item_laws_lemmas.tables.Keys.{found_number}
use Rattle.mqtt_records.specs.declared.state.records.Records.{Records}
use Rattle.mqtt_records.specs.state.Contents.{StoredMessage, IsMessageOf, AgreesWith}
use Rattle.mqtt_store_database.specs.row_laws.Items.{IsMessageRow, message_columns}
use Rattle.mqtt_store_database.specs.row_laws.Steps.{PutsMessageOf}

-- a message's row has its number
pub message_number : (m : StoredMessage) (row : Row) → IsMessageRow m row → column row 0 ≡ Int (pos m.publication)
message_number m row is = ap (λ (r : Row). column r 0) is

-- what was said, and what is said now
abbrev pub OrSaid : Records → StoredMessage → StoredMessage → Type 0
OrSaid r m k = IsMessageOf r k ⊎ (k ≡ m)

module _ (making : Making) (r : Records) (m : StoredMessage) (agrees : AgreesWith r m) (old new : Trees)
    (shaped : IsShapedAt old (message_tree making)) (written : AreWritten IsMessageRow (IsMessageOf r) (old (message_tree making))) (says : PutsMessageOf making m old new) where
  abbrev put : Row
  put = message_row m.publication (message_columns m)

  abbrev rows : List Row
  rows = old (message_tree making)

  abbrev key : Row → Bool
  key = is_of 0 (pos m.publication)

  -- a row of that number stands, and it is the message's
  stood : list_any key rows ≡ true → AreWritten IsMessageRow (OrSaid r m) rows
  stood stands =
      let it = some_has key rows stands in
      let was = written.only it.0 it.1 in
      let same : was.0 ≡ m = agrees was.0 was.1 (found_number 0 was.0.publication m.publication it.0 (message_number was.0 it.0 was.2) it.2) in
      record {
        each = λ k h. elim h [
          | inl said ↦ written.each k said
          | inr is ↦ (it.0, it.1, subst (λ (x : StoredMessage). IsMessageRow x it.0) (same ∙ sym is) was.2)
        ];
        only = λ row h. let it = written.only row h in (it.0, inl it.1, it.2);
      }

  untaken : list_any key rows ≡ false → is_taken rows put ≡ false
  untaken missed = false_from_ne_true _ (λ taken.
      let one = some_has (λ r. is_eq (value_cmp (rowid r) (rowid put))) rows taken in
      let found : key one.0 ≡ true = equal_ids (rowid one.0) (pos m.publication) (all_has _ rows one.0 shaped.ints one.1) ∙ one.2 in
      true≢false (sym (some_from key rows one.0 one.1 found) ∙ missed))

  -- no row of that number stands, so it is put
  added : list_any key rows ≡ false → AreWritten IsMessageRow (OrSaid r m) (put_row put rows)
  added missed = record {
    each = λ k h. elim h [
      | inl said ↦ let it = written.each k said in (it.0, put_all_keeps (put ∷ []) rows it.0 (and_from _ _ (ap not (untaken missed)) refl) it.1, it.2)
      | inr is ↦ (put, has_put put rows, rw is refl)
    ];
    only = λ row h. elim (put_has put rows row h) [
      | inl same ↦ (m, inr refl, same)
      | inr was ↦ let it = written.only row was in (it.0, inl it.1, it.2)
    ];
  }

  -- after a message is said the table has the rows of those that were, and its row
  pub said_table : AreWritten IsMessageRow (OrSaid r m) (new (message_tree making))
  said_table = elim (cases_Bool (list_any key rows)) [
    | inl stands ↦
        let same : new (message_tree making) ≡ rows = rw stands at says.rows in
        subst (AreWritten IsMessageRow (OrSaid r m)) (sym same) (stood stands)
    | inr missed ↦
        let same : new (message_tree making) ≡ put_row put rows = rw missed at says.rows in
        subst (AreWritten IsMessageRow (OrSaid r m)) (sym same) (added missed)
  ]

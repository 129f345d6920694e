-- What the tables keep before a copy or a retained message is put.
use Rattle.std.proofs.Common.{◌≡◌, ◌≢◌, ℕ, ℤ, List, [], ◌∷◌, codes, refl, sym, subst, ◌∙◌, arith, inl, inr}
use Rattle.sqlite_value.specs.declared.value.Value.TheVariants.{Int}
use Rattle.sqlite_value.specs.Order.{Row}
use Rattle.sqlite_trees.specs.Tree.{Trees}
use Rattle.sqlite_rules.specs.Edit.{IsNoIndex}
use Rattle.sqlite_rules.specs.Lists.{Has}
use Rattle.sqlite_catalog.specs.Change.{KeepsRows as KeepsTables}
use Rattle.sqlite.specs.State.{State}
use Rattle.mqtt_records.specs.declared.state.records.Records.{Records}
use Rattle.mqtt_records.specs.state.Members.{Has as HasItem}
use Rattle.mqtt_records.specs.state.Contents.{IsMessageOf}
use Rattle.mqtt_store_tables.specs.forms.Creation.{AreEmpty}
use Rattle.mqtt_store_tables.specs.forms.Tables.{keep_schema}
use Rattle.mqtt_store_tables.specs.schema.Tables.{tables_from}
use Rattle.mqtt_store_tables.specs.declared.schema.tables.Making.TheVariants.{TakenOver}
use Rattle.mqtt_store_tables.specs.statements.Content.{IsShapedAt, IsWhole}
use Rattle.mqtt_store_tables.specs.statements.Layout.{schema_of}
use Rattle.mqtt_store_tables.specs.statements.Numbers.{number_row, SetsNumber}
use Rattle.mqtt_store_tables.specs.statements.Removal.{RemovesFrom}
use Rattle.mqtt_store_tables.proofs.statements_lemmas.tables.Spared.{meta_spared, session_spared, will_spared, sub_spared, inbound_spared}
use Rattle.mqtt_store_tables.proofs.messages_lemmas.Behind.{asked, message_shaped, queued_shaped, kept_shaped}
use Rattle.mqtt_store_database.specs.item_laws.Items.{IsNumberRow, IsSessionRow, IsWillRow, IsSubscriptionRow, IsOpenRow}
use Rattle.mqtt_store_database.specs.item_laws.Members.{HasColumns, will_of, subscriptions_of, inbound_of}
use Rattle.mqtt_store_database.specs.item_laws.Written.{AreWritten, numbers_in, IsWillOf, IsSubscriptionOf, IsOpenOf, IsCopyOf}
use Rattle.mqtt_store_database.specs.taking_over.Written.{KeepsRows}
use Rattle.mqtt_store_database.proofs.item_laws_lemmas.tables.Kept.{Named, moved}
use Rattle.mqtt_store_database.proofs.item_laws_lemmas.tables.Numbers.{number_set, number_named}
use Rattle.mqtt_store_database.proofs.item_laws_lemmas.tables.Tables.{unchanged}
use Rattle.mqtt_store_database.specs.row_laws.Items.{IsMessageRow, IsQueuedRow, IsKeptRow}
use Rattle.mqtt_store_database.specs.row_laws.Written.{KeepsRowsTwo, AreInOrderTwo, second_numbers}
use Rattle.mqtt_store_database.specs.taking_over.Puts.{emptied}
use Rattle.mqtt_store_database.proofs.taking_over_lemmas.tables.Emptied.{second, all, none_left}
use Rattle.mqtt_store_database.proofs.taking_over_lemmas.tables.Rest.{part_had, part_has, columns_had, columns_has, no_copy, nothing_said, rest_ordered, rest_sayable}

-- no rows of no items
none_written : {X : Type 0} (IsRow : X → Row → Type 0) (Item : X → Type 0) (rows : List Row) → rows ≡ [] → ((x : X) → Item x → ⊥) → AreWritten IsRow Item rows
none_written IsRow Item rows none empty = record {
  each = λ x item. absurd (empty x item);
  only = λ row there. absurd (subst (λ (l : List Row). Has l row) none there);
}

abbrev schema_name : List ℕ
schema_name = codes "schema"

schema_there : (r : Records) → HasItem (numbers_in r) (schema_name, 1)
schema_there r = inr (inr (inr (inr (inr (inl refl)))))

-- the number of the schema has a row
pub schema_stands : (r : Records) (db : Trees) → AreWritten IsNumberRow (HasItem (numbers_in r)) (db 0) → (id : ℤ) × Has (db 0) (Int id ∷ number_row schema_name 1)
schema_stands r db written =
    let it = written.each (schema_name, 1) (schema_there r) in
    (it.2.0, subst (Has (db 0)) it.2.1 it.1)

-- the tables that are whole are in order
pub order_of_whole : (s : State) → IsWhole second s → AreInOrderTwo TakenOver s.now.trees
order_of_whole s whole = record {
  meta = whole.meta;
  session = whole.session;
  will = whole.will;
  sub = whole.sub;
  inbound = whole.inbound;
  message = message_shaped TakenOver s whole;
  queued = queued_shaped TakenOver s whole;
  kept = kept_shaped TakenOver s whole;
}

-- the tables are added; then copies go, and then retained messages
module _ (r : Records) (was added left bare : Trees) (keeps : KeepsRows was r) (kept : KeepsTables keep_schema.tables was added) (empty : AreEmpty (tables_from 13) added)
    (one : RemovesFrom second 9 all added left) (two : RemovesFrom second 11 all left bare) where
  abbrev spared : ℕ → Type 0
  spared = IsNoIndex (schema_of second)

  through : (t : ℕ) → t ≢ 9 → t ≢ 11 → spared t → bare t ≡ added t
  through t a b free = two.others t b free ∙ one.others t a free

  meta_through : bare 0 ≡ was 0
  meta_through = through 0 (omega arith) (omega arith) (meta_spared second (asked TakenOver)) ∙ kept.0

  -- the numbers are those of schema 1 still
  pub numbers_stay : AreWritten IsNumberRow (HasItem (numbers_in r)) (bare 0)
  numbers_stay = moved IsNumberRow (HasItem (numbers_in r)) (was 0) (bare 0) meta_through keeps.rows.meta

  -- ---- the number of the schema is set

  module _ (last : Trees) (shaped : IsShapedAt bare 0) (id : ℤ) (stood : Has (bare 0) (Int id ∷ number_row schema_name 1)) (sets : SetsNumber second schema_name 2 id bare last) where
    names : Named (bare 0)
    names = subst Named (sym meta_through) keeps.single.numbers

    end : (t : ℕ) → t ≢ 0 → t ≢ 9 → t ≢ 11 → spared t → last t ≡ added t
    end t a b c free = sets.others t a free ∙ through t b c free

    numbers_set : AreWritten IsNumberRow (HasItem (second_numbers r)) (last 0)
    numbers_set = number_set bare last (numbers_in r) numbers_stay names shaped schema_name 2 1 1 id stood sets (schema_there r)

    sessions_same : last 2 ≡ was 2
    sessions_same = end 2 (omega arith) (omega arith) (omega arith) (session_spared second (asked TakenOver)) ∙ kept.1.0

    wills_same : last 4 ≡ was 4
    wills_same = end 4 (omega arith) (omega arith) (omega arith) (will_spared second (asked TakenOver)) ∙ kept.1.1.0

    subscriptions_same : last 5 ≡ was 5
    subscriptions_same = end 5 (omega arith) (omega arith) (omega arith) (sub_spared second (asked TakenOver)) ∙ kept.1.1.1.0

    inbound_same : last 7 ≡ was 7
    inbound_same = end 7 (omega arith) (omega arith) (omega arith) (inbound_spared second (asked TakenOver)) ∙ kept.1.1.1.1.0

    no_messages : last 13 ≡ []
    no_messages = end 13 (omega arith) (omega arith) (omega arith) (asked TakenOver).tables.1.1.0 ∙ empty.0

    no_queued : last 14 ≡ []
    no_queued = end 14 (omega arith) (omega arith) (omega arith) (asked TakenOver).tables.1.1.1.0 ∙ empty.1.0

    no_kept : last 16 ≡ []
    no_kept = end 16 (omega arith) (omega arith) (omega arith) (asked TakenOver).tables.1.1.1.1.0 ∙ empty.1.1.0

    no_old : (last 9 ≡ []) × (last 11 ≡ [])
    no_old = (
      sets.others 9 (omega arith) (asked TakenOver).tables.0 ∙ (two.others 9 (omega arith) (asked TakenOver).tables.0 ∙ (one.rows ∙ none_left (added 9))),
      sets.others 11 (omega arith) (asked TakenOver).tables.1.0 ∙ (two.rows ∙ none_left (left 11)),
    )

    -- what they keep is what is left of the records without copies and retained messages
    pub bare_keeps : KeepsRowsTwo TakenOver last (emptied r)
    bare_keeps = record {
      rows = record {
        meta = numbers_set;
        sessions = unchanged IsSessionRow (HasColumns r) (HasColumns (emptied r)) (was 2) (last 2) sessions_same (columns_had r) (columns_has r) keeps.rows.sessions;
        wills = unchanged IsWillRow (IsWillOf r) (IsWillOf (emptied r)) (was 4) (last 4) wills_same (λ x. part_had r will_of (λ s. refl) x.0 x.1) (λ x. part_has r will_of (λ s. refl) x.0 x.1) keeps.rows.wills;
        subscriptions = unchanged IsSubscriptionRow (IsSubscriptionOf r) (IsSubscriptionOf (emptied r)) (was 5) (last 5) subscriptions_same
            (λ x. part_had r subscriptions_of (λ s. refl) x.0 x.1) (λ x. part_has r subscriptions_of (λ s. refl) x.0 x.1) keeps.rows.subscriptions;
        inbound = unchanged IsOpenRow (IsOpenOf r) (IsOpenOf (emptied r)) (was 7) (last 7) inbound_same (λ x. part_had r inbound_of (λ s. refl) x.0 x.1) (λ x. part_has r inbound_of (λ s. refl) x.0 x.1) keeps.rows.inbound;
        messages = none_written IsMessageRow (IsMessageOf (emptied r)) (last 13) no_messages (nothing_said r);
        queued = none_written IsQueuedRow (IsCopyOf (emptied r)) (last 14) no_queued (λ x. no_copy r x.0 x.1);
        kept = none_written IsKeptRow (HasItem (emptied r).retained) (last 16) no_kept (λ x it. it);
        old = no_old;
      };
      single = record {
        numbers = number_named bare last (numbers_in r) numbers_stay names shaped schema_name 2 1 1 id stood sets (schema_there r);
        queued = λ a b ha hb. absurd (subst (λ (l : List Row). Has l a) no_queued ha);
      };
      ordered = rest_ordered r keeps.ordered;
      by_place = tt;
      sayable = rest_sayable r keeps.sayable;
      shared = λ m said. absurd (nothing_said r m said);
    }

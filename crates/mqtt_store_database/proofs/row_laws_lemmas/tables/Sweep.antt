-- The table of messages after sweeps.
use Rattle.std.proofs.Common.{◌≡◌, ◌⊎◌, ℕ, pos, Bool, true, false, not, ◌&&◌, ◌||◌, List, [], ◌∷◌, refl, sym, ap, ◌∙◌, subst, inl, inr, true≢false}
use Rattle.std.proofs.lemmas.Bool.{cases_Bool}
use Rattle.sqlite_value.specs.declared.value.Value.TheVariants.{Int}
use Rattle.sqlite_value.specs.Order.{Row, column}
use Rattle.sqlite_trees.specs.Tree.{Trees}
use Rattle.sqlite_rules.specs.Lists.{Has}
use Rattle.sqlite_rules.proofs.ListLemmas.{some_has, some_from}
use Rattle.mqtt_records.specs.declared.messages.message.RetainedMessage.{RetainedMessage}
use Rattle.mqtt_records.specs.messages.Queue.{CopyRow}
use Rattle.mqtt_records.specs.declared.state.records.Records.{Records}
use Rattle.mqtt_records.specs.state.Members.{Has as HasItem}
use Rattle.mqtt_records.specs.state.Contents.{StoredMessage, IsMessageOf, AgreesWith, copy_message, retained_message}
use Rattle.mqtt_store_tables.specs.declared.schema.tables.Making.{Making}
use Rattle.mqtt_store_tables.specs.statements.Layout.{second_layout}
use Rattle.mqtt_store_tables.specs.statements.Content.{is_of}
use Rattle.mqtt_store_tables.proofs.statements_lemmas.steps.Stands.{removed_new, removed_old}
use Rattle.mqtt_store_tables.specs.messages.Places.{message_tree, queued_tree, kept_tree}
use Rattle.mqtt_store_tables.specs.messages.Messages.{is_referred, Sweeps}
use Rattle.mqtt_store_database.specs.item_laws.Written.{AreWritten, IsCopyOf}
use Rattle.mqtt_store_database.proofs.item_laws_lemmas.tables.Keys.{found_number, number_found}
use Rattle.mqtt_store_database.specs.row_laws.Messages.{EitherSays}
use Rattle.mqtt_store_database.specs.row_laws.Items.{IsMessageRow, IsQueuedRow, IsKeptRow}
use Rattle.mqtt_store_database.specs.row_laws.Steps.{SweepsEach}
use Rattle.mqtt_store_database.proofs.row_laws_lemmas.tables.Said.{message_number}
use Rattle.mqtt_store_database.proofs.row_laws_lemmas.tables.Stays.{queued_alone, kept_alone}

-- a copy's row has the number of its publication
pub queued_number : (x : ℕ × CopyRow) (row : Row) → IsQueuedRow x row → column row 3 ≡ Int (pos x.1.copy.id.publication)
queued_number x row is = ap (λ (r : Row). column r 3) is.1

-- and so has a retained message's
pub kept_number : (x : RetainedMessage) (row : Row) → IsKeptRow x row → column row 4 ≡ Int (pos x.publication)
kept_number x row is = ap (λ (r : Row). column r 4) is

-- the tables of copies and of retained messages have the rows of these records
pub record AreReferred (making : Making) (r : Records) (db : Trees) : Type 0 where
  pub queued : AreWritten IsQueuedRow (IsCopyOf r) (db (queued_tree making))
  pub kept : AreWritten IsKeptRow (HasItem r.retained) (db (kept_tree making))

either_true : (a b : Bool) → a ≡ true → (a || b) ≡ true
either_true a b h = rw h refl

or_true : (a b : Bool) → b ≡ true → (a || b) ≡ true
or_true true b h = refl
or_true false b h = h

which : (a b : Bool) → (a || b) ≡ true → (a ≡ true) ⊎ (b ≡ true)
which true b h = inl refl
which false b h = inr h

module _ (making : Making) (r : Records) (db : Trees) (are : AreReferred making r db) where
  abbrev queued_rows : List Row
  queued_rows = db (queued_tree making)

  abbrev kept_rows : List Row
  kept_rows = db (kept_tree making)

  -- a message that is said is referred to
  pub referred : (m : StoredMessage) → IsMessageOf r m → is_referred making (pos m.publication) db ≡ true
  referred m (inl it) =
      let row = are.queued.each (it.0, it.1) it.2 in
      let found = number_found 3 it.1.copy.id.publication m.publication row.0 (queued_number (it.0, it.1) row.0 row.2) (sym (ap (λ (x : StoredMessage). x.publication) it.3)) in
      either_true _ _ (some_from (is_of 3 (pos m.publication)) queued_rows row.0 row.1 found)
  referred m (inr it) =
      let row = are.kept.each it.0 it.1 in
      let found = number_found 4 it.0.publication m.publication row.0 (kept_number it.0 row.0 row.2) (sym (ap (λ (x : StoredMessage). x.publication) it.2)) in
      or_true _ _ (some_from (is_of 4 (pos m.publication)) kept_rows row.0 row.1 found)

  -- a number that is referred to is that of a message that is said
  pub referring : (n : ℕ) → is_referred making (pos n) db ≡ true → (m : StoredMessage) × IsMessageOf r m × (m.publication ≡ n)
  referring n h = elim (which _ _ h) [
    | inl copy ↦
        let row = some_has (is_of 3 (pos n)) queued_rows copy in
        let it = are.queued.only row.0 row.1 in
        (copy_message it.0.1, inl (it.0.0, it.0.1, it.1, refl), found_number 3 it.0.1.copy.id.publication n row.0 (queued_number it.0 row.0 it.2) row.2)
    | inr retained ↦
        let row = some_has (is_of 4 (pos n)) kept_rows retained in
        let it = are.kept.only row.0 row.1 in
        (retained_message it.0, inr (it.0, it.1, refl), found_number 4 it.0.publication n row.0 (kept_number it.0 row.0 it.2) row.2)
  ]

-- the messages before a change and after it
module _ (making : Making) (q r : Records) (agree : (m : StoredMessage) → IsMessageOf q m → AgreesWith r m) where
  -- each message after it has its row, and each row is of one of these, or of one before it whose number is still to be swept
  pub record AreLeft (numbers : List ℕ) (rows : List Row) : Type 0 where
    pub each : (m : StoredMessage) → IsMessageOf r m → (row : Row) × Has rows row × IsMessageRow m row
    pub only : (row : Row) → Has rows row → (m : StoredMessage) × (IsMessageOf r m ⊎ (IsMessageOf q m × HasItem numbers m.publication)) × IsMessageRow m row

  module _ (n : ℕ) (more : List ℕ) (old new : Trees) (are : AreReferred making r old) (sweeps : Sweeps making (pos n) old new)
      (left : AreLeft (n ∷ more) (old (message_tree making))) where
    abbrev gone : Row → Bool
    gone row = is_of 0 (pos n) row && not (is_referred making (pos n) old)

    -- a row that is referred to stays
    stays : (m : StoredMessage) (row : Row) → IsMessageOf r m → IsMessageRow m row → gone row ≡ false
    stays m row said is = elim (cases_Bool (is_of 0 (pos n) row)) [
      | inl found ↦
          let same = found_number 0 m.publication n row (message_number m row is) found in
          let kept : is_referred making (pos n) old ≡ true = subst (λ (k : ℕ). is_referred making (pos k) old ≡ true) same (referred making r old are m said) in
          rw (found, kept) refl
      | inr other ↦ rw other refl
    ]

    -- one of the number that is left is referred to, so it is said
    still : (m : StoredMessage) (row : Row) → IsMessageOf q m → m.publication ≡ n → IsMessageRow m row → gone row ≡ false → IsMessageOf r m
    still m row was same is out = elim (cases_Bool (is_referred making (pos n) old)) [
      | inl kept ↦
          let it = referring making r old are n kept in
          subst (IsMessageOf r) (agree m was it.0 it.1 (it.2 ∙ sym same)) it.1
      | inr none ↦
          let found = number_found 0 m.publication n row (message_number m row is) same in
          let goes : gone row ≡ true = rw (found, none) refl in
          absurd (true≢false (sym goes ∙ out))
    ]

    -- after one sweep the others are still to be swept
    pub swept_one : AreLeft more (new (message_tree making))
    swept_one = record {
      each = λ m said.
          let it = left.each m said in
          (it.0, removed_old (second_layout making) (message_tree making) gone old new it.0 sweeps (it.1, stays m it.0 said it.2), it.2);
      only = λ row there.
          let was = removed_new (second_layout making) (message_tree making) gone old new row sweeps there in
          let it = left.only row was.0 in (
            it.0,
            elim it.1 [
              | inl said ↦ inl said
              | inr gone_by ↦ elim gone_by.1 [
                | inl same ↦ inl (still it.0 row gone_by.0 same it.2 was.1)
                | inr later ↦ inr (gone_by.0, later)
              ]
            ],
            it.2,
          );
    }

  -- after all sweeps the table has the rows of the messages after the change
  pub swept_all : (numbers : List ℕ) (old new : Trees) → AreReferred making r old → SweepsEach making numbers old new → AreLeft numbers (old (message_tree making))
      → AreWritten IsMessageRow (IsMessageOf r) (new (message_tree making))
  swept_all [] old new are same left = record {
    each = λ m said. rw same (left.each m said);
    only = λ row there.
        let it = left.only row (subst (λ (db : Trees). Has (db (message_tree making)) row) same there) in
        (it.0, elim it.1 [ inl said ↦ said | inr none ↦ absurd none.1 ], it.2);
  }
  swept_all (n ∷ more) old new are sweeps left =
      let mid = sweeps.0 in
      let others = sweeps.1.others in
      let next : AreReferred making r mid = record {
        queued = subst (AreWritten IsQueuedRow (IsCopyOf r)) (sym (queued_alone making old mid others)) are.queued;
        kept = subst (AreWritten IsKeptRow (HasItem r.retained)) (sym (kept_alone making old mid others)) are.kept;
      } in
      swept_all more mid new next sweeps.2 (swept_one n more old mid are sweeps.1 left)

  -- if the rows are of what was said and of what is said, and each number that is said no more is swept, those of what is said are left
  pub swept_table : (numbers : List ℕ) (old new : Trees) → AreReferred making r old → ((m : StoredMessage) → IsMessageOf q m → IsMessageOf r m ⊎ HasItem numbers m.publication)
      → AreWritten IsMessageRow (EitherSays q r) (old (message_tree making)) → SweepsEach making numbers old new → AreWritten IsMessageRow (IsMessageOf r) (new (message_tree making))
  swept_table numbers old new are lost written sweeps = swept_all numbers old new are sweeps (record {
    each = λ m said. written.each m (inr said);
    only = λ row there.
        let it = written.only row there in (
          it.0,
          elim it.1 [
            | inl was ↦ elim (lost it.0 was) [
              | inl said ↦ inl said
              | inr told ↦ inr (was, told)
            ]
            | inr said ↦ inl said
          ],
          it.2,
        );
  })

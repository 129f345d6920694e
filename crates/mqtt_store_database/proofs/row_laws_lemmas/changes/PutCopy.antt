-- All tables after a copy is put.
use Rattle.std.proofs.Common.{◌≡◌, ℕ, pos, refl, sym, subst, ◌∙◌, inl, inr}
use Rattle.sqlite_trees.specs.Tree.{Trees}
use Rattle.sqlite_rules.specs.Edit.{next_rowid}
use Rattle.mqtt_records.specs.messages.Queue.{CopyRow}
use Rattle.mqtt_records.specs.declared.state.records.Records.{Records}
use Rattle.mqtt_records.specs.declared.state.change.Change.TheVariants.{PutCopy}
use Rattle.mqtt_records.specs.state.Records.{changed, Fits}
use Rattle.mqtt_records.specs.state.Session.{with_copy}
use Rattle.mqtt_records.specs.state.Members.{Has as HasItem}
use Rattle.mqtt_records.specs.state.Contents.{StoredMessage, copy_message, IsMessageOf, AgreesWith}
use Rattle.mqtt_keep.proofs.contents_lemmas.Shared.{shared_with, agree_with}
use Rattle.mqtt_store_tables.specs.declared.schema.tables.Making.{Making}
use Rattle.mqtt_store_tables.specs.statements.Layout.{second_layout}
use Rattle.mqtt_store_tables.specs.statements.Content.{IsShapedAt}
use Rattle.mqtt_store_tables.specs.statements.Put.{PutsNumbered, numbered}
use Rattle.mqtt_store_tables.specs.statements.Removal.{is_keyed}
use Rattle.mqtt_store_tables.proofs.statements_lemmas.tables.Whole.{at_tree}
use Rattle.mqtt_store_tables.specs.messages.Places.{message_tree, queued_tree, kept_tree}
use Rattle.mqtt_store_tables.specs.messages.Rows.{queued_row}
use Rattle.mqtt_store_database.specs.item_laws.Members.{IsKept, listed}
use Rattle.mqtt_store_database.specs.item_laws.Written.{AreWritten, IsCopyOf, IsSayableCopy}
use Rattle.mqtt_store_database.proofs.item_laws_lemmas.records.Ordered.{kept_of, ordered_after}
use Rattle.mqtt_store_database.proofs.item_laws_lemmas.records.Queues.{put_new}
use Rattle.mqtt_store_database.proofs.item_laws_lemmas.tables.Kept.{moved}
use Rattle.mqtt_store_database.proofs.item_laws_lemmas.tables.Tables.{unchanged}
use Rattle.mqtt_store_database.specs.row_laws.Messages.{EitherSays}
use Rattle.mqtt_store_database.specs.row_laws.Items.{IsMessageRow, IsQueuedRow, queued_columns}
use Rattle.mqtt_store_database.specs.row_laws.Written.{KeepsRowsTwo, AreInOrderTwo}
use Rattle.mqtt_store_database.specs.row_laws.Steps.{PutsCopy, PutsMessageOf}
use Rattle.mqtt_store_database.proofs.row_laws_lemmas.messages.Copies.{AreTold, put_said, put_says, put_lost}
use Rattle.mqtt_store_database.proofs.row_laws_lemmas.messages.Found.{found_one}
use Rattle.mqtt_store_database.proofs.row_laws_lemmas.tables.Order.{order_put, order_said, order_swept}
use Rattle.mqtt_store_database.proofs.row_laws_lemmas.tables.Places.{message_spared, kept_spared, message_queued, queued_kept, queued_high, queued_not_old}
use Rattle.mqtt_store_database.proofs.row_laws_lemmas.tables.Queued.{queued_keyed, put_queued_table, put_placed}
use Rattle.mqtt_store_database.proofs.row_laws_lemmas.tables.Said.{OrSaid, said_table}
use Rattle.mqtt_store_database.proofs.row_laws_lemmas.tables.Stays.{FirstStay, first_stay, first_alone, then_stay, queued_alone, kept_alone}
use Rattle.mqtt_store_database.proofs.row_laws_lemmas.tables.Sweep.{queued_number}
use Rattle.mqtt_store_database.proofs.row_laws_lemmas.changes.Both.{KeepsBoth, swept}
use Rattle.mqtt_store_database.proofs.row_laws_lemmas.changes.Edited.{queue_both}

module _ (making : Making) (db said mid : Trees) (r : Records) (keeps : KeepsRowsTwo making db r) (order : AreInOrderTwo making db) (birth : ℕ) (entry : CopyRow)
    (fits : Fits (PutCopy birth entry) r) (agrees : AgreesWith r (copy_message entry)) (says : PutsMessageOf making (copy_message entry) db said)
    (puts : PutsNumbered (second_layout making) (queued_tree making) (queued_row birth entry.place (queued_columns entry)) (is_keyed (pos birth) (pos entry.place)) said mid) where
  abbrev after : Records
  after = changed (PutCopy birth entry) r

  abbrev m : StoredMessage
  m = copy_message entry

  kept : IsKept r
  kept = kept_of r keeps.ordered

  queued_said : said (queued_tree making) ≡ db (queued_tree making)
  queued_said = queued_alone making db said says.others

  message_put : mid (message_tree making) ≡ said (message_tree making)
  message_put = puts.others (message_tree making) (message_queued making) (message_spared making)

  kept_put : mid (kept_tree making) ≡ db (kept_tree making)
  kept_put = puts.others (kept_tree making) (λ same. queued_kept making (sym same)) (kept_spared making) ∙ kept_alone making db said says.others

  stay : FirstStay making db mid
  stay = then_stay making db said mid (first_alone making db said says.others) (first_stay making (queued_tree making) said mid puts.others (queued_high making) (queued_not_old making))

  written_said : AreWritten IsQueuedRow (IsCopyOf r) (said (queued_tree making))
  written_said = moved IsQueuedRow (IsCopyOf r) (db (queued_tree making)) (said (queued_tree making)) queued_said keeps.rows.queued

  shaped_said : IsShapedAt said (queued_tree making)
  shaped_said = at_tree db said (queued_tree making) queued_said order.queued

  either : AreWritten IsMessageRow (EitherSays r after) (mid (message_tree making))
  either = unchanged IsMessageRow (OrSaid r m) (EitherSays r after) (said (message_tree making)) (mid (message_tree making)) message_put
      (λ k it. elim it [ inl was ↦ inl was | inr now ↦ put_said r kept birth entry fits k now ])
      (λ k it. elim it [ inl was ↦ inl was | inr is ↦ inr (subst (IsMessageOf after) (sym is) (put_says r kept birth entry fits)) ])
      (said_table making r m agrees db said order.message keeps.rows.messages says)

  -- after a message and a copy are put, the tables keep the changed records, and messages of both
  pub put_both : IsSayableCopy entry.copy → KeepsBoth making r (changed (PutCopy birth entry) r) mid
  put_both sayable = queue_both making db mid r keeps stay birth (with_copy entry)
      (record { birth = λ s. refl; columns = λ s. refl; will = λ s. refl; subscriptions = λ s. refl; inbound = λ s. refl })
      either (put_queued_table making r kept said mid shaped_said written_said birth entry fits puts) kept_put
      (put_placed making r kept said mid shaped_said written_said birth entry fits puts (rw queued_said keeps.single.queued))
      (λ b x there. elim (put_new r kept birth entry fits b x there) [
        | inl new ↦ rw (new.0, new.1) fits.1.session
        | inr old ↦ keeps.sayable.own b x old.0
      ])
      (λ b x there. elim (put_new r kept birth entry fits b x there) [
        | inl new ↦ subst (λ (c : CopyRow). IsSayableCopy c.copy) (sym new.1) sayable
        | inr old ↦ keeps.sayable.copies b x old.0
      ])
      (shared_with r after m keeps.shared agrees (put_said r kept birth entry fits))
      (agree_with r after m keeps.shared agrees (put_said r kept birth entry fits))
      (ordered_after (PutCopy birth entry) r keeps.ordered)

  -- and are in order
  pub put_order : AreInOrderTwo making mid
  put_order =
      let then_said = order_said making m db said says order in
      order_put making (queued_tree making) (next_rowid (said (queued_tree making))) (numbered (queued_tree making) (queued_row birth entry.place (queued_columns entry)) said) (is_keyed (pos birth) (pos entry.place)) said mid refl puts
      then_said.queued then_said

module _ (making : Making) (db next : Trees) (r : Records) (keeps : KeepsRowsTwo making db r) (order : AreInOrderTwo making db) (birth : ℕ) (entry : CopyRow)
    (fits : Fits (PutCopy birth entry) r) (agrees : AgreesWith r (copy_message entry)) (h : PutsCopy making birth entry db next) where
  told : AreTold r birth entry.place (HasItem (listed h.found))
  told x there at =
      let row = keeps.rows.queued.each (birth, x) there in
      found_one (queued_tree making) 3 (is_keyed (pos birth) (pos entry.place)) db row.0 row.1 (queued_keyed (birth, x) row.0 birth entry.place row.2 refl at) x.copy.id.publication
      (queued_number (birth, x) row.0 row.2) h.found h.asks

  -- after a copy is put, the tables keep the changed records
  pub put_keeps : IsSayableCopy entry.copy → KeepsRowsTwo making next (changed (PutCopy birth entry) r)
  put_keeps sayable = swept making r (changed (PutCopy birth entry) r) h.put next (put_both making db h.said h.put r keeps order birth entry fits agrees h.says h.puts sayable)
      (listed h.found) (put_lost r (kept_of r keeps.ordered) birth entry fits (HasItem (listed h.found)) told) h.sweeps

  -- after a copy is put, the tables are in order
  pub put_in_order : AreInOrderTwo making next
  put_in_order = order_swept making (listed h.found) h.put next h.sweeps (put_order making db h.said h.put r keeps order birth entry fits agrees h.says h.puts)

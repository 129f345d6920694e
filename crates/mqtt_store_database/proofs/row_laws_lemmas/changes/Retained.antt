-- All tables after a message is retained, or a retained message removed.
use Rattle.std.proofs.Common.{◌≡◌, ℕ, pos, Option, refl, sym, subst, ◌∙◌, inl, inr}
use Rattle.sqlite_trees.specs.Tree.{Trees}
use Rattle.mqtt_records.specs.declared.messages.message.RetainedMessage.{RetainedMessage}
use Rattle.mqtt_records.specs.declared.state.records.Records.{Records}
use Rattle.mqtt_records.specs.declared.state.change.Change.TheVariants.{PutRetained, RemoveRetained}
use Rattle.mqtt_records.specs.state.Records.{changed, Fits}
use Rattle.mqtt_records.specs.state.Members.{Has as HasItem}
use Rattle.mqtt_records.specs.state.Contents.{StoredMessage, retained_message, IsMessageOf, AgreesWith}
use Rattle.mqtt_keep.proofs.contents_lemmas.Shared.{shared_with, agree_with, shared_less, agree_less}
use Rattle.mqtt_store_tables.specs.declared.schema.tables.Making.{Making}
use Rattle.mqtt_store_tables.specs.statements.Layout.{second_layout}
use Rattle.mqtt_store_tables.specs.statements.Content.{is_of, IsShapedAt}
use Rattle.mqtt_store_tables.specs.statements.Put.{PutsInto, is_retained}
use Rattle.mqtt_store_tables.specs.statements.Removal.{RemovesFrom}
use Rattle.mqtt_store_tables.proofs.statements_lemmas.tables.Whole.{at_tree}
use Rattle.mqtt_store_tables.specs.messages.Places.{message_tree, queued_tree, kept_tree}
use Rattle.mqtt_store_tables.specs.messages.References.{Finds}
use Rattle.mqtt_store_tables.specs.messages.Rows.{kept_row}
use Rattle.mqtt_store_database.specs.item_laws.Members.{listed}
use Rattle.mqtt_store_database.specs.item_laws.Written.{AreWritten, IsSayableRetained}
use Rattle.mqtt_store_database.proofs.item_laws_lemmas.records.Ordered.{by_place_after}
use Rattle.mqtt_store_database.proofs.item_laws_lemmas.records.Owns.{retained_new, retained_out_new}
use Rattle.mqtt_store_database.proofs.item_laws_lemmas.tables.Kept.{moved}
use Rattle.mqtt_store_database.proofs.item_laws_lemmas.tables.Tables.{unchanged}
use Rattle.mqtt_store_database.specs.row_laws.Messages.{EitherSays}
use Rattle.mqtt_store_database.specs.row_laws.Items.{IsMessageRow, IsKeptRow, kept_columns}
use Rattle.mqtt_store_database.specs.row_laws.Written.{KeepsRowsTwo, AreInOrderTwo}
use Rattle.mqtt_store_database.specs.row_laws.Steps.{PutsMessageOf, PutsRetained, RemovesRetained}
use Rattle.mqtt_store_database.proofs.row_laws_lemmas.messages.Found.{found_one}
use Rattle.mqtt_store_database.proofs.row_laws_lemmas.messages.Retained.{IsTold, put_said, put_says, put_lost, removed_said, removed_lost}
use Rattle.mqtt_store_database.proofs.row_laws_lemmas.tables.Kept.{kept_found, put_kept_table, removed_kept_table}
use Rattle.mqtt_store_database.proofs.row_laws_lemmas.tables.Order.{order_put, order_removed, order_said, order_swept}
use Rattle.mqtt_store_database.proofs.row_laws_lemmas.tables.Places.{message_spared, queued_spared, message_kept, queued_kept, kept_high, kept_not_old}
use Rattle.mqtt_store_database.proofs.row_laws_lemmas.tables.Said.{OrSaid, said_table}
use Rattle.mqtt_store_database.proofs.row_laws_lemmas.tables.Stays.{FirstStay, first_stay, first_alone, then_stay, queued_alone, kept_alone}
use Rattle.mqtt_store_database.proofs.row_laws_lemmas.tables.Sweep.{kept_number}
use Rattle.mqtt_store_database.proofs.row_laws_lemmas.changes.Both.{KeepsBoth, swept}
use Rattle.mqtt_store_database.proofs.row_laws_lemmas.changes.Edited.{retained_both}

module _ (making : Making) (db said mid : Trees) (r : Records) (keeps : KeepsRowsTwo making db r) (order : AreInOrderTwo making db) (kept : RetainedMessage) (fits : Fits (PutRetained kept) r)
    (agrees : AgreesWith r (retained_message kept)) (says : PutsMessageOf making (retained_message kept) db said)
    (puts : PutsInto (second_layout making) (kept_tree making) (kept_row kept.place (kept_columns kept)) (is_retained kept.place kept.content.topic) said mid) where
  abbrev after : Records
  after = changed (PutRetained kept) r

  abbrev m : StoredMessage
  m = retained_message kept

  kept_said : said (kept_tree making) ≡ db (kept_tree making)
  kept_said = kept_alone making db said says.others

  message_put : mid (message_tree making) ≡ said (message_tree making)
  message_put = puts.others (message_tree making) (message_kept making) (message_spared making)

  queued_put : mid (queued_tree making) ≡ db (queued_tree making)
  queued_put = puts.others (queued_tree making) (queued_kept making) (queued_spared making) ∙ queued_alone making db said says.others

  stay : FirstStay making db mid
  stay = then_stay making db said mid (first_alone making db said says.others) (first_stay making (kept_tree making) said mid puts.others (kept_high making) (kept_not_old making))

  shaped_said : IsShapedAt said (kept_tree making)
  shaped_said = at_tree db said (kept_tree making) kept_said order.kept

  kept_put : AreWritten IsKeptRow (HasItem after.retained) (mid (kept_tree making))
  kept_put = put_kept_table making r keeps.by_place said mid (moved IsKeptRow (HasItem r.retained) (db (kept_tree making)) (said (kept_tree making)) kept_said keeps.rows.kept) shaped_said kept fits puts

  either : AreWritten IsMessageRow (EitherSays r after) (mid (message_tree making))
  either = unchanged IsMessageRow (OrSaid r m) (EitherSays r after) (said (message_tree making)) (mid (message_tree making)) message_put
      (λ k it. elim it [ inl was ↦ inl was | inr now ↦ put_said r kept fits keeps.by_place k now ])
      (λ k it. elim it [ inl was ↦ inl was | inr is ↦ inr (subst (IsMessageOf after) (sym is) (put_says r kept fits keeps.by_place)) ])
      (said_table making r m agrees db said order.message keeps.rows.messages says)

  -- after a message and its retained row are put, the tables keep the changed records, and messages of both
  pub put_both : IsSayableRetained kept → KeepsBoth making r (changed (PutRetained kept) r) mid
  put_both sayable = retained_both making db mid r keeps stay after.retained either queued_put kept_put
      (by_place_after (PutRetained kept) r keeps.by_place)
      (λ x there. elim (retained_new kept r fits.0 keeps.by_place x there) [
        | inl new ↦ subst IsSayableRetained (sym new) sayable
        | inr old ↦ keeps.sayable.retained x old.0
      ])
      (shared_with r after m keeps.shared agrees (put_said r kept fits keeps.by_place))
      (agree_with r after m keeps.shared agrees (put_said r kept fits keeps.by_place))

  -- and are in order
  pub put_order : AreInOrderTwo making mid
  put_order =
      let then_said = order_said making m db said says order in
      order_put making (kept_tree making) (pos kept.place) (kept_row kept.place (kept_columns kept)) (is_retained kept.place kept.content.topic) said mid refl puts then_said.kept then_said

module _ (making : Making) (db mid : Trees) (r : Records) (keeps : KeepsRowsTwo making db r) (order : AreInOrderTwo making db) (place : ℕ)
    (removes : RemovesFrom (second_layout making) (kept_tree making) (is_of 0 (pos place)) db mid) where
  abbrev left : Records
  left = changed (RemoveRetained place) r

  left_message : mid (message_tree making) ≡ db (message_tree making)
  left_message = removes.others (message_tree making) (message_kept making) (message_spared making)

  left_queued : mid (queued_tree making) ≡ db (queued_tree making)
  left_queued = removes.others (queued_tree making) (queued_kept making) (queued_spared making)

  left_either : AreWritten IsMessageRow (EitherSays r left) (mid (message_tree making))
  left_either = unchanged IsMessageRow (IsMessageOf r) (EitherSays r left) (db (message_tree making)) (mid (message_tree making)) left_message
      (λ k it. elim it [ inl was ↦ was | inr now ↦ removed_said r place k now ])
      (λ k was. inl was)
      keeps.rows.messages

  -- after a retained message's row is removed, the tables keep the changed records, and messages of both
  pub removal_both : KeepsBoth making r (changed (RemoveRetained place) r) mid
  removal_both = retained_both making db mid r keeps (first_stay making (kept_tree making) db mid removes.others (kept_high making) (kept_not_old making)) left.retained left_either left_queued
      (removed_kept_table making r keeps.by_place db mid keeps.rows.kept place removes)
      (by_place_after (RemoveRetained place) r keeps.by_place)
      (λ x there. keeps.sayable.retained x (retained_out_new place r x there).0)
      (shared_less r left keeps.shared (removed_said r place))
      (agree_less r left keeps.shared (removed_said r place))

  -- and are in order
  pub removal_order : AreInOrderTwo making mid
  removal_order = order_removed making (kept_tree making) (is_of 0 (pos place)) db mid removes order.kept order

module _ (making : Making) (db next : Trees) (r : Records) (keeps : KeepsRowsTwo making db r) (order : AreInOrderTwo making db) where
  -- the number of the retained message at a place is the one that is found
  told : (place : ℕ) (found : Option ℕ) → Finds (kept_tree making) 4 (is_of 0 (pos place)) found db → IsTold r place (HasItem (listed found))
  told place found asks x there at =
      let row = keeps.rows.kept.each x there in
      found_one (kept_tree making) 4 (is_of 0 (pos place)) db row.0 row.1 (kept_found x row.0 place row.2 at) x.publication (kept_number x row.0 row.2) found asks

  module _ (kept : RetainedMessage) (fits : Fits (PutRetained kept) r) (agrees : AgreesWith r (retained_message kept)) (h : PutsRetained making kept db next) where
    -- after a message is retained, the tables keep the changed records
    pub put_keeps : IsSayableRetained kept → KeepsRowsTwo making next (changed (PutRetained kept) r)
    put_keeps sayable = swept making r (changed (PutRetained kept) r) h.put next (put_both making db h.said h.put r keeps order kept fits agrees h.says h.puts sayable)
        (listed h.found) (put_lost r kept fits keeps.by_place (HasItem (listed h.found)) (told kept.place h.found h.asks)) h.sweeps

    -- after a message is retained, the tables are in order
    pub put_in_order : AreInOrderTwo making next
    put_in_order = order_swept making (listed h.found) h.put next h.sweeps (put_order making db h.said h.put r keeps order kept fits agrees h.says h.puts)

  module _ (place : ℕ) (h : RemovesRetained making place db next) where
    -- after a retained message is removed, the tables keep the changed records
    pub removal_keeps : KeepsRowsTwo making next (changed (RemoveRetained place) r)
    removal_keeps = swept making r (changed (RemoveRetained place) r) h.left next (removal_both making db h.left r keeps order place h.removes)
        (listed h.found) (removed_lost r place (HasItem (listed h.found)) (told place h.found h.asks)) h.sweeps

    -- after a retained message is removed, the tables are in order
    pub removal_in_order : AreInOrderTwo making next
    removal_in_order = order_swept making (listed h.found) h.left next h.sweeps (removal_order making db h.left r keeps order place h.removes)

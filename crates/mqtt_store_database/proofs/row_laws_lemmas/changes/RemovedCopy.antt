-- All tables after a copy is removed.
use Rattle.std.proofs.Common.{◌≡◌, ℕ, pos, refl, sym, inl, inr}
use Rattle.sqlite_trees.specs.Tree.{Trees}
use Rattle.mqtt_records.specs.declared.state.records.Records.{Records}
use Rattle.mqtt_records.specs.declared.state.change.Change.TheVariants.{RemoveCopy}
use Rattle.mqtt_records.specs.state.Records.{changed}
use Rattle.mqtt_records.specs.state.Session.{without_copy}
use Rattle.mqtt_records.specs.state.Members.{Has as HasItem}
use Rattle.mqtt_records.specs.state.Contents.{IsMessageOf}
use Rattle.mqtt_keep.proofs.contents_lemmas.Shared.{shared_less, agree_less}
use Rattle.mqtt_store_tables.specs.declared.schema.tables.Making.{Making}
use Rattle.mqtt_store_tables.specs.statements.Layout.{second_layout}
use Rattle.mqtt_store_tables.specs.statements.Removal.{RemovesFrom, is_keyed}
use Rattle.mqtt_store_tables.specs.messages.Places.{message_tree, queued_tree, kept_tree}
use Rattle.mqtt_store_database.specs.item_laws.Members.{IsKept, listed}
use Rattle.mqtt_store_database.specs.item_laws.Written.{AreWritten}
use Rattle.mqtt_store_database.proofs.item_laws_lemmas.records.Ordered.{kept_of, ordered_after}
use Rattle.mqtt_store_database.proofs.item_laws_lemmas.records.Queues.{removed_copy_new}
use Rattle.mqtt_store_database.proofs.item_laws_lemmas.tables.Tables.{unchanged}
use Rattle.mqtt_store_database.specs.row_laws.Messages.{EitherSays}
use Rattle.mqtt_store_database.specs.row_laws.Items.{IsMessageRow}
use Rattle.mqtt_store_database.specs.row_laws.Written.{KeepsRowsTwo, AreInOrderTwo}
use Rattle.mqtt_store_database.specs.row_laws.Steps.{RemovesCopy}
use Rattle.mqtt_store_database.proofs.row_laws_lemmas.messages.Copies.{AreTold, removed_said, removed_lost}
use Rattle.mqtt_store_database.proofs.row_laws_lemmas.messages.Found.{found_one}
use Rattle.mqtt_store_database.proofs.row_laws_lemmas.tables.Order.{order_removed, order_swept}
use Rattle.mqtt_store_database.proofs.row_laws_lemmas.tables.Places.{message_spared, kept_spared, message_queued, queued_kept, queued_high, queued_not_old}
use Rattle.mqtt_store_database.proofs.row_laws_lemmas.tables.Queued.{queued_keyed, removed_queued, removed_placed}
use Rattle.mqtt_store_database.proofs.row_laws_lemmas.tables.Stays.{first_stay}
use Rattle.mqtt_store_database.proofs.row_laws_lemmas.tables.Sweep.{queued_number}
use Rattle.mqtt_store_database.proofs.row_laws_lemmas.changes.Both.{KeepsBoth, swept}
use Rattle.mqtt_store_database.proofs.row_laws_lemmas.changes.Edited.{queue_both}

module _ (making : Making) (db mid : Trees) (r : Records) (keeps : KeepsRowsTwo making db r) (order : AreInOrderTwo making db) (birth place : ℕ)
    (removes : RemovesFrom (second_layout making) (queued_tree making) (is_keyed (pos birth) (pos place)) db mid) where
  abbrev after : Records
  after = changed (RemoveCopy birth place) r

  kept : IsKept r
  kept = kept_of r keeps.ordered

  message_left : mid (message_tree making) ≡ db (message_tree making)
  message_left = removes.others (message_tree making) (message_queued making) (message_spared making)

  kept_left : mid (kept_tree making) ≡ db (kept_tree making)
  kept_left = removes.others (kept_tree making) (λ same. queued_kept making (sym same)) (kept_spared making)

  either : AreWritten IsMessageRow (EitherSays r after) (mid (message_tree making))
  either = unchanged IsMessageRow (IsMessageOf r) (EitherSays r after) (db (message_tree making)) (mid (message_tree making)) message_left
      (λ k it. elim it [ inl was ↦ was | inr now ↦ removed_said r kept birth place k now ])
      (λ k was. inl was)
      keeps.rows.messages

  -- after a copy's row is removed, the tables keep the changed records, and messages of both
  pub removal_both : KeepsBoth making r (changed (RemoveCopy birth place) r) mid
  removal_both = queue_both making db mid r keeps (first_stay making (queued_tree making) db mid removes.others (queued_high making) (queued_not_old making)) birth (without_copy place)
      (record { birth = λ s. refl; columns = λ s. refl; will = λ s. refl; subscriptions = λ s. refl; inbound = λ s. refl })
      either (removed_queued making r kept db mid order.queued keeps.rows.queued birth place removes) kept_left
      (removed_placed making r kept db mid order.queued keeps.rows.queued birth place removes keeps.single.queued)
      (λ b x there. keeps.sayable.own b x (removed_copy_new r kept birth place b x there).0)
      (λ b x there. keeps.sayable.copies b x (removed_copy_new r kept birth place b x there).0)
      (shared_less r after keeps.shared (removed_said r kept birth place))
      (agree_less r after keeps.shared (removed_said r kept birth place))
      (ordered_after (RemoveCopy birth place) r keeps.ordered)

  -- and are in order
  pub removal_order : AreInOrderTwo making mid
  removal_order = order_removed making (queued_tree making) (is_keyed (pos birth) (pos place)) db mid removes order.queued order

module _ (making : Making) (db next : Trees) (r : Records) (keeps : KeepsRowsTwo making db r) (order : AreInOrderTwo making db) (birth place : ℕ) (h : RemovesCopy making birth place db next) where
  told : AreTold r birth place (HasItem (listed h.found))
  told x there at =
      let row = keeps.rows.queued.each (birth, x) there in
      found_one (queued_tree making) 3 (is_keyed (pos birth) (pos place)) db row.0 row.1 (queued_keyed (birth, x) row.0 birth place row.2 refl at) x.copy.id.publication
      (queued_number (birth, x) row.0 row.2) h.found h.asks

  -- after a copy is removed, the tables keep the changed records
  pub removal_keeps : KeepsRowsTwo making next (changed (RemoveCopy birth place) r)
  removal_keeps = swept making r (changed (RemoveCopy birth place) r) h.left next (removal_both making db h.left r keeps order birth place h.removes)
      (listed h.found) (removed_lost r (kept_of r keeps.ordered) birth place (HasItem (listed h.found)) told) h.sweeps

  -- after a copy is removed, the tables are in order
  pub removal_in_order : AreInOrderTwo making next
  removal_in_order = order_swept making (listed h.found) h.left next h.sweeps (removal_order making db h.left r keeps order birth place h.removes)

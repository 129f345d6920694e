-- All tables after a copy's phase is set.
use Rattle.std.proofs.Common.{◌≡◌, ℕ, refl, sym, inl, inr}
use Rattle.sqlite_trees.specs.Tree.{Trees, has_rowid}
use Rattle.mqtt_base.specs.declared.session.Phase.{Phase}
use Rattle.mqtt_records.specs.declared.state.records.Records.{Records}
use Rattle.mqtt_records.specs.declared.state.change.Change.TheVariants.{SetCopy}
use Rattle.mqtt_records.specs.state.Records.{changed}
use Rattle.mqtt_records.specs.state.Session.{with_phase}
use Rattle.mqtt_records.specs.state.Contents.{IsMessageOf}
use Rattle.mqtt_keep.proofs.contents_lemmas.Shared.{shared_less, agree_less}
use Rattle.mqtt_store_tables.specs.declared.schema.tables.Making.{Making}
use Rattle.mqtt_store_tables.specs.messages.Places.{message_tree, queued_tree, kept_tree}
use Rattle.mqtt_store_database.specs.item_laws.Members.{IsKept}
use Rattle.mqtt_store_database.specs.item_laws.Written.{AreWritten}
use Rattle.mqtt_store_database.proofs.item_laws_lemmas.records.Ordered.{kept_of, ordered_after}
use Rattle.mqtt_store_database.proofs.item_laws_lemmas.records.Queues.{set_new}
use Rattle.mqtt_store_database.proofs.item_laws_lemmas.tables.Tables.{unchanged}
use Rattle.mqtt_store_database.specs.row_laws.Messages.{EitherSays}
use Rattle.mqtt_store_database.specs.row_laws.Items.{IsMessageRow}
use Rattle.mqtt_store_database.specs.row_laws.Written.{KeepsRowsTwo, AreInOrderTwo}
use Rattle.mqtt_store_database.specs.row_laws.Steps.{SetsPhase}
use Rattle.mqtt_store_database.proofs.row_laws_lemmas.messages.Copies.{set_said, set_says}
use Rattle.mqtt_store_database.proofs.row_laws_lemmas.tables.Order.{order_put}
use Rattle.mqtt_store_database.proofs.row_laws_lemmas.tables.Places.{message_spared, kept_spared, message_queued, queued_kept, queued_high, queued_not_old}
use Rattle.mqtt_store_database.proofs.row_laws_lemmas.tables.Queued.{now, puts, set_queued_table, set_placed}
use Rattle.mqtt_store_database.proofs.row_laws_lemmas.tables.Stays.{first_stay}
use Rattle.mqtt_store_database.proofs.row_laws_lemmas.changes.Both.{finished}
use Rattle.mqtt_store_database.proofs.row_laws_lemmas.changes.Edited.{queue_both}

module _ (making : Making) (db next : Trees) (r : Records) (keeps : KeepsRowsTwo making db r) (order : AreInOrderTwo making db) (birth place : ℕ) (phase : Phase) (h : SetsPhase making birth place phase db next) where
  abbrev after : Records
  after = changed (SetCopy birth place phase) r

  kept : IsKept r
  kept = kept_of r keeps.ordered

  message_same : next (message_tree making) ≡ db (message_tree making)
  message_same = h.sets.others (message_tree making) (message_queued making) (message_spared making)

  kept_same : next (kept_tree making) ≡ db (kept_tree making)
  kept_same = h.sets.others (kept_tree making) (λ same. queued_kept making (sym same)) (kept_spared making)

  messages : AreWritten IsMessageRow (IsMessageOf after) (next (message_tree making))
  messages = unchanged IsMessageRow (IsMessageOf r) (IsMessageOf after) (db (message_tree making)) (next (message_tree making)) message_same
      (set_said r kept birth place phase) (set_says r kept birth place phase) keeps.rows.messages

  -- after a copy's phase is set, the tables keep the changed records
  pub set_keeps : KeepsRowsTwo making next (changed (SetCopy birth place phase) r)
  set_keeps = finished making r after next next (queue_both making db next r keeps (first_stay making (queued_tree making) db next h.sets.others (queued_high making) (queued_not_old making)) birth (with_phase place phase)
      (record { birth = λ s. refl; columns = λ s. refl; will = λ s. refl; subscriptions = λ s. refl; inbound = λ s. refl })
      (unchanged IsMessageRow (IsMessageOf after) (EitherSays r after) (next (message_tree making)) (next (message_tree making)) refl
      (λ m it. elim it [ inl was ↦ set_says r kept birth place phase m was | inr now ↦ now ]) (λ m now. inr now) messages)
      (set_queued_table making r kept db next order.queued keeps.rows.queued birth place keeps.single.queued phase h.id h.columns h.stood h.sets) kept_same
      (set_placed making r kept db next order.queued keeps.rows.queued birth place keeps.single.queued phase h.id h.columns h.stood h.sets)
      (λ b x there. elim (set_new r kept birth place phase b x there) [
        | inl new ↦ rw new.4 (keeps.sayable.own b new.0 new.3)
        | inr old ↦ keeps.sayable.own b x old.0
      ])
      (λ b x there. elim (set_new r kept birth place phase b x there) [
        | inl new ↦ rw new.4 (keeps.sayable.copies b new.0 new.3)
        | inr old ↦ keeps.sayable.copies b x old.0
      ])
      (shared_less r after keeps.shared (set_said r kept birth place phase))
      (agree_less r after keeps.shared (set_said r kept birth place phase))
      (ordered_after (SetCopy birth place phase) r keeps.ordered))
      (λ t other spared. refl) messages

  -- after a copy's phase is set, the tables are in order
  pub set_order : AreInOrderTwo making next
  set_order = order_put making (queued_tree making) h.id (now making r kept db next order.queued keeps.rows.queued birth place keeps.single.queued phase h.id h.columns h.stood h.sets) (has_rowid h.id) db next refl
      (puts making r kept db next order.queued keeps.rows.queued birth place keeps.single.queued phase h.id h.columns h.stood h.sets) order.queued order

-- All tables after a session is removed with its rows.
use Rattle.std.proofs.Common.{◌≡◌, ◌≢◌, ℕ, pos, ap, refl, ◌∙◌, inl, inr, arith}
use Rattle.sqlite_value.specs.Order.{Row, column}
use Rattle.sqlite_trees.specs.Tree.{Trees}
use Rattle.mqtt_records.specs.messages.Queue.{CopyRow}
use Rattle.mqtt_records.specs.declared.state.records.Records.{Records}
use Rattle.mqtt_records.specs.declared.state.change.Change.TheVariants.{RemoveSession}
use Rattle.mqtt_records.specs.state.Records.{changed}
use Rattle.mqtt_records.specs.state.Members.{Has as HasItem, InQueue, queue_of}
use Rattle.mqtt_records.specs.state.Contents.{IsMessageOf}
use Rattle.mqtt_keep.proofs.contents_lemmas.Shared.{shared_less, agree_less}
use Rattle.mqtt_store_tables.specs.declared.schema.tables.Making.{Making}
use Rattle.mqtt_store_tables.specs.declared.schema.tables.Making.TheVariants.{New, TakenOver}
use Rattle.mqtt_store_tables.specs.statements.Content.{is_of, without}
use Rattle.mqtt_store_tables.proofs.statements_lemmas.deletes.Removal.{shaped_left}
use Rattle.mqtt_store_tables.proofs.statements_lemmas.tables.Spared.{meta_spared}
use Rattle.mqtt_store_tables.proofs.statements_lemmas.tables.Whole.{at_tree}
use Rattle.mqtt_store_tables.specs.messages.Endings.{EndsSession}
use Rattle.mqtt_store_tables.specs.messages.Places.{message_tree, queued_tree, kept_tree}
use Rattle.mqtt_store_tables.proofs.messages_lemmas.Behind.{asked}
use Rattle.mqtt_store_database.specs.item_laws.Members.{HasColumns, will_of, subscriptions_of, inbound_of}
use Rattle.mqtt_store_database.specs.item_laws.Items.{IsNumberRow, IsSessionRow, IsWillRow, IsSubscriptionRow, IsOpenRow}
use Rattle.mqtt_store_database.specs.item_laws.Written.{AreWritten, IsWillOf, IsSubscriptionOf, IsOpenOf, IsCopyOf}
use Rattle.mqtt_store_database.proofs.item_laws_lemmas.records.Ordered.{ordered_after}
use Rattle.mqtt_store_database.proofs.item_laws_lemmas.records.Owns.{columns_out_new, columns_out_old}
use Rattle.mqtt_store_database.proofs.item_laws_lemmas.records.Parts.{left_new, left_old}
use Rattle.mqtt_store_database.proofs.item_laws_lemmas.tables.Keys.{missed_number, other_number, number_found}
use Rattle.mqtt_store_database.proofs.item_laws_lemmas.tables.Kept.{moved}
use Rattle.mqtt_store_database.proofs.item_laws_lemmas.tables.Tables.{unchanged, without_rows}
use Rattle.mqtt_store_database.specs.row_laws.Messages.{EitherSays}
use Rattle.mqtt_store_database.specs.row_laws.Items.{IsMessageRow, IsQueuedRow, IsKeptRow}
use Rattle.mqtt_store_database.specs.row_laws.Written.{KeepsRowsTwo, AreInOrderTwo, HasNoOldRows, second_numbers}
use Rattle.mqtt_store_database.specs.row_laws.Steps.{RemovesWholeSession}
use Rattle.mqtt_store_database.proofs.row_laws_lemmas.messages.Copies.{ended_said, ended_lost}
use Rattle.mqtt_store_database.proofs.row_laws_lemmas.messages.Found.{found_all}
use Rattle.mqtt_store_database.proofs.row_laws_lemmas.tables.Order.{order_swept}
use Rattle.mqtt_store_database.proofs.row_laws_lemmas.tables.Places.{message_spared, kept_spared}
use Rattle.mqtt_store_database.proofs.row_laws_lemmas.tables.Queued.{queued_birth, ended_queued, ended_placed}
use Rattle.mqtt_store_database.proofs.row_laws_lemmas.tables.Sweep.{queued_number}
use Rattle.mqtt_store_database.proofs.row_laws_lemmas.changes.Both.{KeepsBoth, swept}

-- what the end of a session leaves of each table
pub record Ended (making : Making) (birth : ℕ) (old new : Trees) : Type 0 where
  pub meta : new 0 ≡ old 0
  pub session : new 2 ≡ without 0 (pos birth) (old 2)
  pub will : new 4 ≡ without 0 (pos birth) (old 4)
  pub sub : new 5 ≡ without 1 (pos birth) (old 5)
  pub inbound : new 7 ≡ without 1 (pos birth) (old 7)
  pub message : new (message_tree making) ≡ old (message_tree making)
  pub queued : new (queued_tree making) ≡ without 1 (pos birth) (old (queued_tree making))
  pub kept : new (kept_tree making) ≡ old (kept_tree making)
  pub past : HasNoOldRows making old → HasNoOldRows making new

-- the end of a session takes the rows that refer to it, and leaves all others
pub ended : (making : Making) (birth : ℕ) (old new : Trees) → EndsSession making (pos birth) old new → Ended making birth old new
ended New birth old new h = record {
  meta = h.others 0 (omega arith) (omega arith, (omega arith, (omega arith, (omega arith, tt)))) (meta_spared _ (asked New));
  session = h.session;
  will = h.rows.1.1.1.0;
  sub = h.rows.1.1.0;
  inbound = h.rows.1.0;
  message = h.others 9 (omega arith) (omega arith, (omega arith, (omega arith, (omega arith, tt)))) (message_spared New);
  queued = h.rows.0;
  kept = h.others 12 (omega arith) (omega arith, (omega arith, (omega arith, (omega arith, tt)))) (kept_spared New);
  past = λ none. tt;
}
ended TakenOver birth old new h = record {
  meta = h.others 0 (omega arith) (omega arith, (omega arith, (omega arith, (omega arith, (omega arith, tt))))) (meta_spared _ (asked TakenOver));
  session = h.session;
  will = h.rows.1.1.1.1.0;
  sub = h.rows.1.1.1.0;
  inbound = h.rows.1.1.0;
  message = h.others 13 (omega arith) (omega arith, (omega arith, (omega arith, (omega arith, (omega arith, tt))))) (message_spared TakenOver);
  queued = h.rows.0;
  kept = h.others 16 (omega arith) (omega arith, (omega arith, (omega arith, (omega arith, (omega arith, tt))))) (kept_spared TakenOver);
  past = λ none. (h.rows.1.0 ∙ ap (without 1 (pos birth)) none.0, h.others 11 (omega arith) (omega arith, (omega arith, (omega arith, (omega arith, (omega arith, tt))))) (asked TakenOver).tables.1.0 ∙ none.1);
}

module _ (making : Making) (db mid : Trees) (r : Records) (keeps : KeepsRowsTwo making db r) (order : AreInOrderTwo making db) (birth : ℕ)
    (ends : EndsSession making (pos birth) db mid) where
  abbrev after : Records
  after = changed (RemoveSession birth) r

  left : Ended making birth db mid
  left = ended making birth db mid ends

  -- ---- the tables

  sessions_left : AreWritten IsSessionRow (HasColumns after) (mid 2)
  sessions_left = without_rows IsSessionRow (HasColumns r) (HasColumns after) (λ c. c.birth ≢ birth) (is_of 0 (pos birth)) (db 2)
      (λ c row item there is missed. missed_number 0 c.birth birth row is.birth missed)
      (λ c row item there is other. other_number 0 c.birth birth row is.birth other)
      keeps.rows.sessions (mid 2) left.session (columns_out_new birth r) (columns_out_old birth r)

  wills_left : AreWritten IsWillRow (IsWillOf after) (mid 4)
  wills_left = without_rows IsWillRow (IsWillOf r) (IsWillOf after) (λ x. x.0 ≢ birth) (is_of 0 (pos birth)) (db 4)
      (λ x row item there is missed. missed_number 0 x.0 birth row (ap (λ (a : Row). column a 0) is) missed)
      (λ x row item there is other. other_number 0 x.0 birth row (ap (λ (a : Row). column a 0) is) other)
      keeps.rows.wills (mid 4) left.will (λ x. left_new will_of birth r.sessions x.0 x.1) (λ x. left_old will_of birth r.sessions x.0 x.1)

  subscriptions_left : AreWritten IsSubscriptionRow (IsSubscriptionOf after) (mid 5)
  subscriptions_left = without_rows IsSubscriptionRow (IsSubscriptionOf r) (IsSubscriptionOf after) (λ x. x.0 ≢ birth) (is_of 1 (pos birth)) (db 5)
      (λ x row item there is missed. missed_number 1 x.0 birth row (ap (λ (a : Row). column a 1) is.1) missed)
      (λ x row item there is other. other_number 1 x.0 birth row (ap (λ (a : Row). column a 1) is.1) other)
      keeps.rows.subscriptions (mid 5) left.sub (λ x. left_new subscriptions_of birth r.sessions x.0 x.1) (λ x. left_old subscriptions_of birth r.sessions x.0 x.1)

  inbound_left : AreWritten IsOpenRow (IsOpenOf after) (mid 7)
  inbound_left = without_rows IsOpenRow (IsOpenOf r) (IsOpenOf after) (λ x. x.0 ≢ birth) (is_of 1 (pos birth)) (db 7)
      (λ x row item there is missed. missed_number 1 x.0 birth row (ap (λ (a : Row). column a 1) is.1) missed)
      (λ x row item there is other. other_number 1 x.0 birth row (ap (λ (a : Row). column a 1) is.1) other)
      keeps.rows.inbound (mid 7) left.inbound (λ x. left_new inbound_of birth r.sessions x.0 x.1) (λ x. left_old inbound_of birth r.sessions x.0 x.1)

  queued_left : AreWritten IsQueuedRow (IsCopyOf after) (mid (queued_tree making))
  queued_left = ended_queued r birth (db (queued_tree making)) (mid (queued_tree making)) left.queued keeps.rows.queued

  kept_left : AreWritten IsKeptRow (HasItem r.retained) (mid (kept_tree making))
  kept_left = moved IsKeptRow (HasItem r.retained) (db (kept_tree making)) (mid (kept_tree making)) left.kept keeps.rows.kept

  -- ---- messages

  either : AreWritten IsMessageRow (EitherSays r after) (mid (message_tree making))
  either = unchanged IsMessageRow (IsMessageOf r) (EitherSays r after) (db (message_tree making)) (mid (message_tree making)) left.message
      (λ k it. elim it [ inl was ↦ was | inr now ↦ ended_said r birth k now ])
      (λ k was. inl was)
      keeps.rows.messages

  -- after a session is removed with its rows, the tables keep the changed records, and messages of both
  pub ended_both : KeepsBoth making r (changed (RemoveSession birth) r) mid
  ended_both = record {
    meta = moved IsNumberRow (HasItem (second_numbers r)) (db 0) (mid 0) left.meta keeps.rows.meta;
    sessions = sessions_left;
    wills = wills_left;
    subscriptions = subscriptions_left;
    inbound = inbound_left;
    messages = either;
    queued = queued_left;
    kept = kept_left;
    old = left.past keeps.rows.old;
    single = record { numbers = rw left.meta keeps.single.numbers; queued = ended_placed r birth (db (queued_tree making)) (mid (queued_tree making)) left.queued keeps.single.queued };
    ordered = ordered_after (RemoveSession birth) r keeps.ordered;
    by_place = keeps.by_place;
    sayable = record {
      wills = λ b x there. keeps.sayable.wills b x (left_new will_of birth r.sessions b x there).0;
      subscriptions = λ b x there. keeps.sayable.subscriptions b x (left_new subscriptions_of birth r.sessions b x there).0;
      own = λ b x there. keeps.sayable.own b x (left_new queue_of birth r.sessions b x there).0;
      copies = λ b x there. keeps.sayable.copies b x (left_new queue_of birth r.sessions b x there).0;
      retained = keeps.sayable.retained;
    };
    shared = shared_less r after keeps.shared (ended_said r birth);
    agree = agree_less r after keeps.shared (ended_said r birth);
  }

  -- and are in order
  pub ended_order : AreInOrderTwo making mid
  ended_order = record {
    meta = at_tree db mid 0 left.meta order.meta;
    session = shaped_left db mid 2 (is_of 0 (pos birth)) left.session order.session;
    will = shaped_left db mid 4 (is_of 0 (pos birth)) left.will order.will;
    sub = shaped_left db mid 5 (is_of 1 (pos birth)) left.sub order.sub;
    inbound = shaped_left db mid 7 (is_of 1 (pos birth)) left.inbound order.inbound;
    message = at_tree db mid (message_tree making) left.message order.message;
    queued = shaped_left db mid (queued_tree making) (is_of 1 (pos birth)) left.queued order.queued;
    kept = at_tree db mid (kept_tree making) left.kept order.kept;
  }

module _ (making : Making) (db next : Trees) (r : Records) (keeps : KeepsRowsTwo making db r) (order : AreInOrderTwo making db) (birth : ℕ) (h : RemovesWholeSession making birth db next) where
  told : (x : CopyRow) → InQueue r birth x → HasItem h.found x.copy.id.publication
  told x there =
      let row = keeps.rows.queued.each (birth, x) there in
      let key = number_found 1 birth birth row.0 (queued_birth (birth, x) row.0 row.2) refl in
      found_all (queued_tree making) 3 (is_of 1 (pos birth)) db row.0 row.1 key x.copy.id.publication (queued_number (birth, x) row.0 row.2) h.found h.asks

  -- after a session is removed with its rows, the tables keep the changed records
  pub ended_keeps : KeepsRowsTwo making next (changed (RemoveSession birth) r)
  ended_keeps = swept making r (changed (RemoveSession birth) r) h.left next (ended_both making db h.left r keeps order birth h.ends) h.found (ended_lost r birth (HasItem h.found) told) h.sweeps

  -- after a session is removed, the tables are in order
  pub ended_in_order : AreInOrderTwo making next
  ended_in_order = order_swept making h.found h.left next h.sweeps (ended_order making db h.left r keeps order birth h.ends)

-- All tables after a statement on one of the first five, as far as it leaves queues and retained messages alone.
use Rattle.std.proofs.Common.{◌≡◌, ℕ, ◌≤◌, arith}
use Rattle.sqlite_trees.specs.Tree.{Trees}
use Rattle.mqtt_records.specs.declared.messages.message.Will.{Will}
use Rattle.mqtt_records.specs.declared.state.subscription.Subscription.{Subscription}
use Rattle.mqtt_records.specs.declared.state.records.Records.{Records}
use Rattle.mqtt_records.specs.state.Members.{Has as HasItem, InPart}
use Rattle.mqtt_records.specs.state.Contents.{IsMessageOf}
use Rattle.mqtt_store_tables.specs.declared.schema.tables.Making.{Making}
use Rattle.mqtt_store_tables.specs.statements.Layout.{second_layout}
use Rattle.mqtt_store_tables.proofs.statements_lemmas.tables.Whole.{Spares}
use Rattle.mqtt_store_tables.specs.messages.Places.{message_tree, queued_tree, kept_tree}
use Rattle.mqtt_store_database.specs.item_laws.Members.{HasColumns, will_of, subscriptions_of, AllOrdered}
use Rattle.mqtt_store_database.specs.item_laws.Items.{IsNumberRow, IsSessionRow, IsWillRow, IsSubscriptionRow, IsOpenRow}
use Rattle.mqtt_store_database.specs.item_laws.Written.{AreWritten, IsWillOf, IsSubscriptionOf, IsOpenOf, IsCopyOf, IsSayableWill, IsSayableSubscription}
use Rattle.mqtt_store_database.proofs.item_laws_lemmas.tables.Kept.{Named, moved}
use Rattle.mqtt_store_database.proofs.item_laws_lemmas.tables.Tables.{unchanged}
use Rattle.mqtt_store_database.specs.row_laws.Items.{IsMessageRow, IsQueuedRow, IsKeptRow}
use Rattle.mqtt_store_database.specs.row_laws.Written.{KeepsRowsTwo, second_numbers}
use Rattle.mqtt_store_database.proofs.row_laws_lemmas.messages.Others.{SameItems, same_said, same_says, same_shared}
use Rattle.mqtt_store_database.proofs.row_laws_lemmas.tables.Places.{message_spared, queued_spared, kept_spared, message_high, queued_high, kept_high, low_not_old}
use Rattle.mqtt_store_database.proofs.row_laws_lemmas.tables.Stays.{old_stay}

module _ (making : Making) (db next : Trees) (r after : Records) (keeps : KeepsRowsTwo making db r) (tree : ℕ) (low : tree ≤ 7) (others : Spares (second_layout making) tree db next) (same : SameItems r after) where
  message_same : next (message_tree making) ≡ db (message_tree making)
  message_same = others (message_tree making) (λ e. let high = message_high making in absurd (omega (arith, high, low, e))) (message_spared making)

  queued_same : next (queued_tree making) ≡ db (queued_tree making)
  queued_same = others (queued_tree making) (λ e. let high = queued_high making in absurd (omega (arith, high, low, e))) (queued_spared making)

  kept_same : next (kept_tree making) ≡ db (kept_tree making)
  kept_same = others (kept_tree making) (λ e. let high = kept_high making in absurd (omega (arith, high, low, e))) (kept_spared making)

  -- with the first five tables written again, all tables are written
  pub rest_keeps : AreWritten IsNumberRow (HasItem (second_numbers after)) (next 0) → Named (next 0) → AreWritten IsSessionRow (HasColumns after) (next 2) → AreWritten IsWillRow (IsWillOf after) (next 4)
      → AreWritten IsSubscriptionRow (IsSubscriptionOf after) (next 5) → AreWritten IsOpenRow (IsOpenOf after) (next 7) → ((b : ℕ) (x : Will) → InPart will_of after.sessions b x → IsSayableWill x)
      → ((b : ℕ) (x : Subscription) → InPart subscriptions_of after.sessions b x → IsSayableSubscription x) → AllOrdered after → KeepsRowsTwo making next after
  rest_keeps meta named sessions wills subscriptions inbound wills_said subscriptions_said ordered = record {
    rows = record {
      meta = meta;
      sessions = sessions;
      wills = wills;
      subscriptions = subscriptions;
      inbound = inbound;
      messages = unchanged IsMessageRow (IsMessageOf r) (IsMessageOf after) (db (message_tree making)) (next (message_tree making)) message_same (same_said r after same) (same_says r after same) keeps.rows.messages;
      queued = unchanged IsQueuedRow (IsCopyOf r) (IsCopyOf after) (db (queued_tree making)) (next (queued_tree making)) queued_same (λ x. same.new x.0 x.1) (λ x. same.old x.0 x.1) keeps.rows.queued;
      kept = rw same.retained (moved IsKeptRow (HasItem r.retained) (db (kept_tree making)) (next (kept_tree making)) kept_same keeps.rows.kept);
      old = old_stay making tree db next others (low_not_old making tree low) keeps.rows.old;
    };
    single = record { numbers = named; queued = rw queued_same keeps.single.queued };
    ordered = ordered;
    by_place = rw same.retained keeps.by_place;
    sayable = record {
      wills = wills_said;
      subscriptions = subscriptions_said;
      own = λ b x there. keeps.sayable.own b x (same.new b x there);
      copies = λ b x there. keeps.sayable.copies b x (same.new b x there);
      retained = rw same.retained keeps.sayable.retained;
    };
    shared = same_shared r after same keeps.shared;
  }

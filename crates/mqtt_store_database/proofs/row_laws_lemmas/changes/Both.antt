-- Between the statements that change rows and the sweeps, and after these.
use Rattle.std.proofs.Common.{◌⊎◌, ℕ, List}
use Rattle.sqlite_trees.specs.Tree.{Trees}
use Rattle.mqtt_records.specs.declared.state.records.Records.{Records}
use Rattle.mqtt_records.specs.state.Records.{kept_place}
use Rattle.mqtt_records.specs.lists.Order.{IsAscending}
use Rattle.mqtt_records.specs.state.Members.{Has as HasItem}
use Rattle.mqtt_records.specs.state.Contents.{StoredMessage, IsMessageOf, AgreesWith, SharesContents}
use Rattle.mqtt_store_tables.specs.declared.schema.tables.Making.{Making}
use Rattle.mqtt_store_tables.specs.statements.Layout.{second_layout}
use Rattle.mqtt_store_tables.proofs.statements_lemmas.tables.Whole.{Spares}
use Rattle.mqtt_store_tables.specs.messages.Places.{message_tree, queued_tree, kept_tree}
use Rattle.mqtt_store_database.specs.item_laws.Members.{HasColumns, AllOrdered}
use Rattle.mqtt_store_database.specs.item_laws.Items.{IsNumberRow, IsSessionRow, IsWillRow, IsSubscriptionRow, IsOpenRow}
use Rattle.mqtt_store_database.specs.item_laws.Written.{AreWritten, AreSayable, IsWillOf, IsSubscriptionOf, IsOpenOf, IsCopyOf}
use Rattle.mqtt_store_database.proofs.item_laws_lemmas.tables.Kept.{moved}
use Rattle.mqtt_store_database.specs.row_laws.Messages.{EitherSays}
use Rattle.mqtt_store_database.specs.row_laws.Items.{IsMessageRow, IsQueuedRow, IsKeptRow}
use Rattle.mqtt_store_database.specs.row_laws.Written.{KeepsRowsTwo, AreAllSingleTwo, HasNoOldRows, second_numbers}
use Rattle.mqtt_store_database.specs.row_laws.Steps.{SweepsEach, DropsLast}
use Rattle.mqtt_store_database.proofs.row_laws_lemmas.tables.Stays.{first_alone, swept_others, queued_alone, kept_alone}
use Rattle.mqtt_store_database.proofs.row_laws_lemmas.tables.LetGo.{let_go_table}
use Rattle.mqtt_store_database.proofs.row_laws_lemmas.tables.Sweep.{swept_table}

-- the tables keep the records after a change, but that messages stand of what was said before it too
pub record KeepsBoth (making : Making) (q r : Records) (db : Trees) : Type 0 where
  pub meta : AreWritten IsNumberRow (HasItem (second_numbers r)) (db 0)
  pub sessions : AreWritten IsSessionRow (HasColumns r) (db 2)
  pub wills : AreWritten IsWillRow (IsWillOf r) (db 4)
  pub subscriptions : AreWritten IsSubscriptionRow (IsSubscriptionOf r) (db 5)
  pub inbound : AreWritten IsOpenRow (IsOpenOf r) (db 7)
  pub messages : AreWritten IsMessageRow (EitherSays q r) (db (message_tree making))
  pub queued : AreWritten IsQueuedRow (IsCopyOf r) (db (queued_tree making))
  pub kept : AreWritten IsKeptRow (HasItem r.retained) (db (kept_tree making))
  pub old : HasNoOldRows making db
  pub single : AreAllSingleTwo making db
  pub ordered : AllOrdered r
  pub by_place : IsAscending kept_place r.retained
  pub sayable : AreSayable r
  pub shared : SharesContents r
  pub agree : (m : StoredMessage) → IsMessageOf q m → AgreesWith r m

module _ (making : Making) (q r : Records) (mid new : Trees) (both : KeepsBoth making q r mid) where
  -- with messages of what is said alone, the tables keep the records after the change
  pub finished : Spares (second_layout making) (message_tree making) mid new → AreWritten IsMessageRow (IsMessageOf r) (new (message_tree making)) → KeepsRowsTwo making new r
  finished others messages =
      let alone = first_alone making mid new others in
      let queued_same = queued_alone making mid new others in
      record {
        rows = record {
          meta = moved IsNumberRow (HasItem (second_numbers r)) (mid 0) (new 0) alone.meta both.meta;
          sessions = moved IsSessionRow (HasColumns r) (mid 2) (new 2) alone.session both.sessions;
          wills = moved IsWillRow (IsWillOf r) (mid 4) (new 4) alone.will both.wills;
          subscriptions = moved IsSubscriptionRow (IsSubscriptionOf r) (mid 5) (new 5) alone.sub both.subscriptions;
          inbound = moved IsOpenRow (IsOpenOf r) (mid 7) (new 7) alone.inbound both.inbound;
          messages = messages;
          queued = moved IsQueuedRow (IsCopyOf r) (mid (queued_tree making)) (new (queued_tree making)) queued_same both.queued;
          kept = moved IsKeptRow (HasItem r.retained) (mid (kept_tree making)) (new (kept_tree making)) (kept_alone making mid new others) both.kept;
          old = alone.past both.old;
        };
        single = record { numbers = rw alone.meta both.single.numbers; queued = rw queued_same both.single.queued };
        ordered = both.ordered;
        by_place = both.by_place;
        sayable = both.sayable;
        shared = both.shared;
      }

  -- so they do once each number was swept that is said no more
  pub swept : (numbers : List ℕ) → ((m : StoredMessage) → IsMessageOf q m → IsMessageOf r m ⊎ HasItem numbers m.publication) → SweepsEach making numbers mid new → KeepsRowsTwo making new r
  swept numbers lost sweeps = finished (swept_others making numbers mid new sweeps)
      (swept_table making q r both.agree numbers mid new (record { queued = both.queued; kept = both.kept }) lost both.messages sweeps)

  -- so they do once those messages went to which something referred before the change, and nothing does now
  pub dropped : (old : Trees) → KeepsRowsTwo making old q → DropsLast making old mid new → KeepsRowsTwo making new r
  dropped old keeps drops = finished drops.others (let_go_table making q r old mid new both.agree (record { queued = keeps.rows.queued; kept = keeps.rows.kept }) (record { queued = both.queued; kept = both.kept }) both.messages drops)

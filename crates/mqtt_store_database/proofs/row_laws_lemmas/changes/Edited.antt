-- All tables after a change of a session's queue, or of retained messages alone.
use Rattle.std.proofs.Common.{◌≡◌, ℕ, List}
use Rattle.sqlite_trees.specs.Tree.{Trees}
use Rattle.mqtt_records.specs.declared.messages.message.RetainedMessage.{RetainedMessage}
use Rattle.mqtt_records.specs.messages.Queue.{CopyRow}
use Rattle.mqtt_records.specs.declared.state.session.Session.{Session}
use Rattle.mqtt_records.specs.declared.state.records.Records.{Records}
use Rattle.mqtt_records.specs.state.Records.{in_session, kept_place}
use Rattle.mqtt_records.specs.state.Session.{columns_of}
use Rattle.mqtt_records.specs.lists.Order.{IsAscending}
use Rattle.mqtt_records.specs.state.Members.{Has as HasItem, InQueue}
use Rattle.mqtt_records.specs.state.Contents.{StoredMessage, IsMessageOf, AgreesWith, SharesContents}
use Rattle.mqtt_store_tables.specs.declared.schema.tables.Making.{Making}
use Rattle.mqtt_store_tables.specs.messages.Places.{message_tree, queued_tree, kept_tree}
use Rattle.mqtt_store_database.specs.item_laws.Members.{HasColumns, will_of, subscriptions_of, inbound_of, AllOrdered}
use Rattle.mqtt_store_database.specs.item_laws.Items.{IsNumberRow, IsSessionRow, IsWillRow, IsSubscriptionRow, IsOpenRow}
use Rattle.mqtt_store_database.specs.item_laws.Written.{AreWritten, IsWillOf, IsSubscriptionOf, IsOpenOf, IsCopyOf, IsSayableCopy, IsSayableRetained}
use Rattle.mqtt_store_database.proofs.item_laws_lemmas.tables.Edited.{sessions_stay, wills_stay, subscriptions_stay, inbound_stays, wills_said, subscriptions_said}
use Rattle.mqtt_store_database.proofs.item_laws_lemmas.tables.Kept.{Placed, moved}
use Rattle.mqtt_store_database.specs.row_laws.Messages.{EitherSays}
use Rattle.mqtt_store_database.specs.row_laws.Items.{IsMessageRow, IsQueuedRow, IsKeptRow}
use Rattle.mqtt_store_database.specs.row_laws.Written.{KeepsRowsTwo, second_numbers}
use Rattle.mqtt_store_database.proofs.row_laws_lemmas.tables.Stays.{FirstStay}
use Rattle.mqtt_store_database.proofs.row_laws_lemmas.changes.Both.{KeepsBoth}

-- a change of a session that leaves all but its queue alone
pub record LeavesRest (f : Session → Session) : Type 0 where
  pub birth : (s : Session) → (f s).birth ≡ s.birth
  pub columns : (s : Session) → columns_of (f s) ≡ columns_of s
  pub will : (s : Session) → will_of (f s) ≡ will_of s
  pub subscriptions : (s : Session) → subscriptions_of (f s) ≡ subscriptions_of s
  pub inbound : (s : Session) → inbound_of (f s) ≡ inbound_of s

module _ (making : Making) (db mid : Trees) (r : Records) (keeps : KeepsRowsTwo making db r) (stay : FirstStay making db mid) where
  module _ (birth : ℕ) (f : Session → Session) (rest : LeavesRest f) where
    abbrev after : Records
    after = in_session birth f r

    -- with the table of copies written again, and messages of both, a change of a queue leaves all tables so
    pub queue_both : AreWritten IsMessageRow (EitherSays r after) (mid (message_tree making)) → AreWritten IsQueuedRow (IsCopyOf after) (mid (queued_tree making)) → mid (kept_tree making) ≡ db (kept_tree making)
        → Placed (mid (queued_tree making)) → ((b : ℕ) (x : CopyRow) → InQueue after b x → x.copy.id.birth ≡ b) → ((b : ℕ) (x : CopyRow) → InQueue after b x → IsSayableCopy x.copy)
        → SharesContents after → ((m : StoredMessage) → IsMessageOf r m → AgreesWith after m) → AllOrdered after → KeepsBoth making r after mid
    queue_both messages queued kept placed own said shared agree ordered =
        let up = keeps.ordered.sessions in
        record {
          meta = moved IsNumberRow (HasItem (second_numbers r)) (db 0) (mid 0) stay.meta keeps.rows.meta;
          sessions = sessions_stay r birth f up rest.birth db mid rest.columns stay.session keeps.rows.sessions;
          wills = wills_stay r birth f up rest.birth db mid rest.will stay.will keeps.rows.wills;
          subscriptions = subscriptions_stay r birth f up rest.birth db mid rest.subscriptions stay.sub keeps.rows.subscriptions;
          inbound = inbound_stays r birth f up rest.birth db mid rest.inbound stay.inbound keeps.rows.inbound;
          messages = messages;
          queued = queued;
          kept = moved IsKeptRow (HasItem r.retained) (db (kept_tree making)) (mid (kept_tree making)) kept keeps.rows.kept;
          old = stay.past keeps.rows.old;
          single = record { numbers = rw stay.meta keeps.single.numbers; queued = placed };
          ordered = ordered;
          by_place = keeps.by_place;
          sayable = record {
            wills = wills_said r birth f up rest.birth keeps.sayable rest.will;
            subscriptions = subscriptions_said r birth f up rest.birth keeps.sayable rest.subscriptions;
            own = own;
            copies = said;
            retained = keeps.sayable.retained;
          };
          shared = shared;
          agree = agree;
        }

  module _ (retained : List RetainedMessage) where
    abbrev later : Records
    later = record r { retained = retained }

    -- so does a change of retained messages with their table written again
    pub retained_both : AreWritten IsMessageRow (EitherSays r later) (mid (message_tree making)) → mid (queued_tree making) ≡ db (queued_tree making) → AreWritten IsKeptRow (HasItem retained) (mid (kept_tree making))
        → IsAscending kept_place retained → ((x : RetainedMessage) → HasItem retained x → IsSayableRetained x) → SharesContents later → ((m : StoredMessage) → IsMessageOf r m → AgreesWith later m) → KeepsBoth making r later mid
    retained_both messages queued kept by_place said shared agree = record {
      meta = moved IsNumberRow (HasItem (second_numbers r)) (db 0) (mid 0) stay.meta keeps.rows.meta;
      sessions = moved IsSessionRow (HasColumns r) (db 2) (mid 2) stay.session keeps.rows.sessions;
      wills = moved IsWillRow (IsWillOf r) (db 4) (mid 4) stay.will keeps.rows.wills;
      subscriptions = moved IsSubscriptionRow (IsSubscriptionOf r) (db 5) (mid 5) stay.sub keeps.rows.subscriptions;
      inbound = moved IsOpenRow (IsOpenOf r) (db 7) (mid 7) stay.inbound keeps.rows.inbound;
      messages = messages;
      queued = moved IsQueuedRow (IsCopyOf r) (db (queued_tree making)) (mid (queued_tree making)) queued keeps.rows.queued;
      kept = kept;
      old = stay.past keeps.rows.old;
      single = record { numbers = rw stay.meta keeps.single.numbers; queued = rw queued keeps.single.queued };
      ordered = record { sessions = keeps.ordered.sessions; lists = keeps.ordered.lists };
      by_place = by_place;
      sayable = record {
        wills = keeps.sayable.wills;
        subscriptions = keeps.sayable.subscriptions;
        own = keeps.sayable.own;
        copies = keeps.sayable.copies;
        retained = said;
      };
      shared = shared;
      agree = agree;
    }

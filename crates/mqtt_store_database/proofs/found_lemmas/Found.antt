-- What a load of schema 2 finds, in the lines of the tables.
use Rattle.std.proofs.Common.{ℕ, List, refl, inl, inr}
use Rattle.sqlite_value.specs.Order.{Row}
use Rattle.sqlite_trees.specs.Tree.{Trees}
use Rattle.sqlite_rules.specs.Lists.{Has}
use Rattle.mqtt_records.specs.messages.Queue.{CopyRow}
use Rattle.mqtt_keep.specs.lawful.Lawful.{last_of}
use Rattle.mqtt_records.specs.declared.state.records.Records.{Records}
use Rattle.mqtt_records.specs.state.Members.{Has as HasItem, InQueue, queue_of}
use Rattle.mqtt_records.specs.state.Contents.{StoredMessage, copy_message, retained_message, IsMessageOf}
use Rattle.mqtt_store_tables.specs.declared.schema.tables.Making.{Making}
use Rattle.mqtt_store_rows.specs.values.Ones.{one_number}
use Rattle.mqtt_store_database.specs.item_laws.Written.{AreSayable, IsSayableCopy, IsCopyOf}
use Rattle.mqtt_store_database.proofs.found_lemmas.both.Traverse.{IsSaid, SaysOf, rows_each, rows_only, shares_each, shares_only}
use Rattle.mqtt_store_database.proofs.found_lemmas.both.Table.{lined}
use Rattle.mqtt_store_database.proofs.found_lemmas.both.First.{AreFirstListed, AreFirstSaid, first_found, wills_sayable, subscriptions_sayable}
use Rattle.mqtt_store_database.proofs.taking_over_lemmas.found.Found.{ordered_each}
use Rattle.mqtt_store_rows.specs.rows.Rows.{SaysMessage}
use Rattle.mqtt_store_rows.specs.rows.Joins.{SaysCopy, SaysRetained}
use Rattle.mqtt_store_database.specs.declared.reading.reading.AddedTable.TheVariants.{Message, Queued, Kept}
use Rattle.mqtt_store_database.specs.reading.Listing.{added_tree}
use Rattle.mqtt_store_database.specs.reading.Kept.{HasRecordsTwo}
use Rattle.mqtt_store_database.proofs.found_lemmas.Lines.{shown, message_line, queued_line, kept_line, message_said, queued_said, kept_said}
use Rattle.mqtt_store_database.proofs.found_lemmas.Messages.{copies_share, copy_said, retained_said, found_shares, said_listed, listed_said}
use Rattle.mqtt_store_database.proofs.found_lemmas.Bare.{first_rows, first_said}
use Rattle.mqtt_store_database.proofs.found_lemmas.Alike.{HasLines, AreDistinct}

module _ (making : Making) (db : Trees) (q : Records) (h : HasRecordsTwo making db q) where
  abbrev messages : List StoredMessage
  messages = h.gives.messages

  -- ---- the tables with which each schema begins

  first_listed : AreFirstListed db (first_rows h.rows)
  first_listed =
      let shared = h.listed.shared in
      record { meta = shared.meta; sessions = shared.sessions; wills = shared.wills; subscriptions = shared.subscriptions; inbound = shared.inbound }

  said : AreFirstSaid 2 (first_rows h.rows) q
  said = first_said messages h.rows q h.gives.by

  -- ---- messages, copies and retained messages

  message_is_said : (m : StoredMessage) → IsMessageOf q m → IsSaid SaysMessage h.rows.messages m
  message_is_said m it = rows_each SaysMessage h.rows.messages messages h.gives.said m (said_listed messages h.rows q h.gives.by m it)

  message_says : (row : Row) → Has h.rows.messages row → (m : StoredMessage) × IsMessageOf q m × SaysMessage m row
  message_says row there =
      let it = rows_only SaysMessage h.rows.messages messages h.gives.said row there in
      (it.0, listed_said messages h.rows q h.gives.by h.gives.order.ascending h.gives.referred it.0 it.1, it.2)

  found_lined : HasLines making db q
  found_lined =
      let shares = copies_share messages h.rows q h.gives.by in
      record {
        first = first_found 2 (first_rows h.rows) q said db first_listed;
        messages = lined (shown Message) message_line SaysMessage (IsMessageOf q) message_said (db (added_tree making Message)) h.rows.messages h.listed.added.messages.each message_is_said message_says;
        queued = lined (shown Queued) queued_line (SaysOf (SaysCopy messages)) (IsCopyOf q) (queued_said messages) (db (added_tree making Queued)) h.rows.queued h.listed.added.queued.each
            (shares_each (SaysCopy messages) queue_of h.rows.queued q.sessions shares) (shares_only (SaysCopy messages) queue_of h.rows.queued q.sessions shares);
        kept = lined (shown Kept) kept_line (SaysRetained messages) (HasItem q.retained) (kept_said messages) (db (added_tree making Kept)) h.rows.kept h.listed.added.kept.each
            (retained_said messages h.rows q h.gives.by) (rows_only (SaysRetained messages) h.rows.kept q.retained h.gives.by.retained);
      }

  -- ---- what is found can be said

  -- properties as a copy's message says them; what is sent is spelled in the copy's own row
  sayable_copy : (b : ℕ) (x : CopyRow) → InQueue q b x → IsSayableCopy x.copy
  sayable_copy b x it =
      let message = (message_is_said (copy_message x) (inl (b, x, it, refl))).2 in
      record {
        passed = message.properties.goes_on;
        spelled = message.properties.block.is.fits;
        sent = (copy_said messages h.rows q h.gives.by b x it).2.1.spelled.properties;
      }

  found_sayable : AreSayable q
  found_sayable = record {
    wills = wills_sayable 2 (first_rows h.rows) q said;
    subscriptions = subscriptions_sayable 2 (first_rows h.rows) q said;
    own = λ b x it.
        let row = copy_said messages h.rows q h.gives.by b x it in
        one_number _ x.copy.id.birth b row.2.1.own.own.id.birth row.2.0;
    copies = sayable_copy;
    retained = λ x it. (message_is_said (retained_message x) (inr (x, it, refl))).2.properties.block.is.fits;
  }

  -- what a load finds has the lines that the tables show, and is told apart by them
  pub found_distinct : AreDistinct making db q
  found_distinct = record {
    lines = found_lined;
    ordered = record { sessions = h.lawful.sessions.table.ascending; lists = ordered_each (last_of q) q.sessions h.lawful.sessions.each };
    by_place = h.lawful.retained.table.ascending;
    sayable = found_sayable;
    shared = found_shares messages h.rows q h.gives.by;
  }

-- What a load finds, in the lines of the tables.
use Rattle.std.proofs.Common.{ℕ, List, [], ◌∷◌, subst}
use Rattle.std.specs.List.{AllByRecursion}
use Rattle.sqlite_value.specs.Order.{Row}
use Rattle.sqlite_trees.specs.Tree.{Trees}
use Rattle.mqtt_props.specs.Properties.{FitsBlock}
use Rattle.mqtt_props.proofs.EditLemmas.{FitsBlock-filter}
use Rattle.mqtt_records.specs.messages.Queue.{CopyRow}
use Rattle.mqtt_keep.specs.lawful.Lawful.{IsLawfulSession, last_of}
use Rattle.mqtt_keep.specs.declared.lawful.rows.Last.{Last}
use Rattle.mqtt_records.specs.declared.state.records.Records.{Records}
use Rattle.mqtt_records.specs.declared.state.session.Session.{Session as SessionItem}
use Rattle.mqtt_records.specs.state.Members.{Has as HasItem, queue_of}
use Rattle.mqtt_store_rows.specs.values.Ones.{one_number}
use Rattle.mqtt_store_rows.specs.values.Rows.{SaysCopy}
use Rattle.mqtt_store_rows.specs.taking_over.Rows.{SaysRetained}
use Rattle.mqtt_store_tables.specs.declared.forms.schema.StoreTable.TheVariants.{Copy, Retained}
use Rattle.mqtt_store_database.specs.asking.Listing.{shown, tree_of}
use Rattle.mqtt_store_database.specs.taking_over.Kept.{HasRecords}
use Rattle.mqtt_store_database.specs.item_laws.Members.{IsOrdered}
use Rattle.mqtt_store_database.specs.item_laws.Written.{AreSayable, IsSayableCopy, IsCopyOf}
use Rattle.mqtt_store_database.proofs.found_lemmas.both.Sent.{says_sent}
use Rattle.mqtt_store_database.proofs.found_lemmas.both.Traverse.{Shares, SaysOf, own_rows, rows_each, rows_only, shares_each, shares_only, wills_share, subscriptions_share, inbound_share, copies_share}
use Rattle.mqtt_store_database.proofs.found_lemmas.both.Lines.{copy_line, retained_line, copy_said, retained_said}
use Rattle.mqtt_store_database.proofs.found_lemmas.both.Table.{lined}
use Rattle.mqtt_store_database.proofs.found_lemmas.both.First.{FirstRows, AreFirstListed, AreFirstSaid, first_found, wills_sayable, subscriptions_sayable}
use Rattle.mqtt_store_database.proofs.taking_over_lemmas.found.Alike.{HasLines, AreDistinct}

-- ---- lists in order

-- the lists of lawful sessions are in order
pub ordered_each : (last : Last) (ss : List SessionItem) → AllByRecursion (IsLawfulSession last) ss → AllByRecursion IsOrdered ss
ordered_each last [] all = tt
ordered_each last (s ∷ ss) all =
    (record { subscriptions = all.0.subscriptions.table.ascending; inbound = all.0.inbound.table.ascending; queue = all.0.queue.table.ascending }, ordered_each last ss all.1)

-- ---- all tables

module _ (db : Trees) (q : Records) (h : HasRecords db q) where
  abbrev first_rows : FirstRows
  first_rows = record {
    meta = h.rows.meta;
    sessions = h.rows.sessions;
    wills = h.rows.parts.wills;
    subscriptions = h.rows.parts.subscriptions;
    inbound = h.rows.parts.inbound;
  }

  first_listed : AreFirstListed db first_rows
  first_listed = record {
    meta = h.listed.meta;
    sessions = h.listed.sessions;
    wills = h.listed.parts.wills;
    subscriptions = h.listed.parts.subscriptions;
    inbound = h.listed.parts.inbound;
  }

  first_said : AreFirstSaid 1 first_rows q
  first_said = record {
    numbers = h.gives.numbers;
    sessions = own_rows h.rows.sessions h.rows.parts q.sessions h.gives.sessions;
    wills = wills_share h.rows.sessions h.rows.parts q.sessions h.gives.sessions;
    subscriptions = subscriptions_share h.rows.sessions h.rows.parts q.sessions h.gives.sessions;
    inbound = inbound_share h.rows.sessions h.rows.parts q.sessions h.gives.sessions;
  }

  copies_are : Shares SaysCopy queue_of h.rows.parts.copies q.sessions
  copies_are = copies_share h.rows.sessions h.rows.parts q.sessions h.gives.sessions

  found_lined : HasLines db q
  found_lined = record {
    first = first_found 1 first_rows q first_said db first_listed;
    copies = lined (shown Copy) copy_line (SaysOf SaysCopy) (IsCopyOf q) copy_said (db (tree_of Copy)) h.rows.parts.copies h.listed.parts.copies.each
        (shares_each SaysCopy queue_of h.rows.parts.copies q.sessions copies_are) (shares_only SaysCopy queue_of h.rows.parts.copies q.sessions copies_are);
    retained = lined (shown Retained) retained_line SaysRetained (HasItem q.retained) retained_said (db (tree_of Retained)) h.rows.retained h.listed.retained.each
        (rows_each SaysRetained h.rows.retained q.retained h.gives.retained) (rows_only SaysRetained h.rows.retained q.retained h.gives.retained);
  }

  -- ---- what is found can be said

  sayable_copy : (x : ℕ × CopyRow) (row : Row) → SaysCopy x.1 row → IsSayableCopy x.1.copy
  sayable_copy x row says =
      let sent = says.message.content.properties in
      let all = says_sent x.1.copy.content.properties x.1.copy.identifiers _ sent in
      record {
        passed = sent.goes_on;
        spelled = subst FitsBlock sent.passed (FitsBlock-filter _ sent.all sent.block.is.fits);
        sent = subst FitsBlock all sent.block.is.fits;
      }

  found_sayable : AreSayable q
  found_sayable = record {
    wills = wills_sayable 1 first_rows q first_said;
    subscriptions = subscriptions_sayable 1 first_rows q first_said;
    own = λ b x it.
        let said = shares_each SaysCopy queue_of h.rows.parts.copies q.sessions copies_are (b, x) it in
        one_number _ x.copy.id.birth b said.2.1.message.id.birth said.2.0;
    copies = λ b x it. let said = shares_each SaysCopy queue_of h.rows.parts.copies q.sessions copies_are (b, x) it in sayable_copy (b, x) said.0 said.2.1;
    retained = λ x it. (rows_each SaysRetained h.rows.retained q.retained h.gives.retained x it).2.content.properties.block.is.fits;
  }

  -- what a load finds has the lines that the tables show, and is told apart by them
  pub found_distinct : AreDistinct db q
  found_distinct = record {
    lines = found_lined;
    ordered = record { sessions = h.lawful.sessions.table.ascending; lists = ordered_each (last_of q) q.sessions h.lawful.sessions.each };
    by_place = h.lawful.retained.table.ascending;
    sayable = found_sayable;
  }

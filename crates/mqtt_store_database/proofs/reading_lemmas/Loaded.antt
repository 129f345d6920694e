-- What the rows of all tables of schema 2 give.
use Rattle.std.proofs.Common.{Result, Ok, Err, List, IfOk, sym, ap, subst, ◌∙◌}
use Rattle.std.specs.List.{AllByRecursion}
use Rattle.sqlite_value.specs.Order.{Row}
use Rattle.sqlite_trees.specs.Tree.{Trees}
use Rattle.mqtt_keep.specs.lawful.Lawful.{IsLawful}
use Rattle.mqtt_records.specs.declared.state.records.Records.{Records}
use Rattle.mqtt_keep.specs.declared.keeping.keep.KeepError.{KeepError}
use Rattle.mqtt_store_rows.proofs.values_lemmas.LawfulLemmas.{lawful_within}
use Rattle.mqtt_store_tables.specs.declared.schema.tables.Making.{Making}
use Rattle.mqtt_store_rows.specs.rows.Gives.{Rows, AreQueues, IsReferred, Gives}
use Rattle.mqtt_store_database.specs.row_laws.Written.{HasNoOldRows}
use Rattle.mqtt_records.specs.state.Contents.{StoredMessage}
use Rattle.mqtt_store_rows.specs.gathering.Queues.{Queues, GoesOn, HaveQueues, AreSlimOf}
use Rattle.mqtt_store_rows.specs.gathering.Slim.{IsSlimOf, with_read}
use Rattle.mqtt_store_database.specs.declared.reading.reading.AddedTable.TheVariants.{Message, Queued, Kept}
use Rattle.mqtt_store_database.specs.reading.Listing.{IsAddedListing}
use Rattle.mqtt_store_database.specs.reading.Kept.{AreSharedListed, AreListedTwo, HasRecordsTwo}
use Rattle.mqtt_store_database.proofs.reading_lemmas.Unique.{listed_one}

module _ (Has Have : Records → Type 0) (so : (r : Records) → IsLawful r → Has r → Have r) where
  -- slim rows are still those of records of which something else follows
  pub slim_as : (slim : Records) → IsSlimOf Has slim → IsSlimOf Have slim
  slim_as slim h = record { whole = h.whole; slim_is = h.slim_is; has = so h.whole h.lawful h.has; lawful = h.lawful; passed = h.passed }

  -- so are those that are answered
  pub slim_so : (result : Result Records KeepError) → IfOk result (IsSlimOf Has) → IfOk result (IsSlimOf Have)
  slim_so (Ok slim) h = slim_as slim h
  slim_so (Err e) h = tt

-- the rows of all tables, of which those of `message` and `queued` were read one by one
pub listed_with : (making : Making) (db : Trees) (said queued : List Row) (rows : Rows) → IsAddedListing making Message db said → IsAddedListing making Queued db queued → AreSharedListed db rows → IsAddedListing making Kept db rows.kept
    → HasNoOldRows making db → AreListedTwo making db (with_read said queued rows)
listed_with making db said queued rows messages copies shared kept old = record {
  shared = record { meta = shared.meta; sessions = shared.sessions; wills = shared.wills; subscriptions = shared.subscriptions; inbound = shared.inbound };
  added = record { messages = messages; queued = copies; kept = kept };
  old = old;
}

-- if the rows give no records, the database has none
pub gives_none : (making : Making) (db : Trees) (rows : Rows) → AreListedTwo making db rows → ((r : Records) → Gives rows r → IsLawful r → ⊥) → (r : Records) → HasRecordsTwo making db r → ⊥
gives_none making db rows listed none r h =
    let same = listed_one making db rows h.rows r listed h.listed h.gives (lawful_within r h.lawful) in
    none r (subst (λ rows. Gives rows r) (sym same) h.gives) h.lawful

-- ---- queues that were gathered

module _ (a b : Queues) (on : GoesOn a b) (rows : List Row) where
  -- what has these queues in the end had them at the begin
  pub have_before : (r : Records) → HaveQueues b rows r → HaveQueues a rows r
  have_before r have = record {
    heads = have.heads ∙ ap (λ (h : Records). record h { sessions = r.sessions }) on.heads;
    same = have.same ∙ ap (λ (h : Records). h.sessions) on.heads;
    queues = subst (λ (l : List StoredMessage). AreQueues l rows r.sessions) on.messages have.queues;
    lawful = have.lawful;
    referred = subst (AllByRecursion (IsReferred r)) on.messages have.referred;
  }

  -- and the other way
  pub have_after : (r : Records) → HaveQueues a rows r → HaveQueues b rows r
  have_after r have = record {
    heads = have.heads ∙ ap (λ (h : Records). record h { sessions = r.sessions }) (sym on.heads);
    same = have.same ∙ ap (λ (h : Records). h.sessions) (sym on.heads);
    queues = subst (λ (l : List StoredMessage). AreQueues l rows r.sessions) (sym on.messages) have.queues;
    lawful = have.lawful;
    referred = subst (AllByRecursion (IsReferred r)) (sym on.messages) have.referred;
  }

  -- so it is of slim records
  pub slim_before : (slim : Records) → AreSlimOf b rows slim → AreSlimOf a rows slim
  slim_before slim it = record { whole = it.whole; slim_is = it.slim_is; have = have_before it.whole it.have }

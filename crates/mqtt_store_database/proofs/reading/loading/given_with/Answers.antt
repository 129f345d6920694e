use Rattle.std.proofs.Common.{◌≡◌, Err, ap, subst, ◌∙◌, arith, inl, inr}
use Rattle.std.proofs.lemmas.Result.{IfOk-weaker}
use Rattle.sqlite.specs.Effect.{Database}
use Rattle.sqlite.specs.Held.{state}
use Rattle.sqlite.specs.State.{HasCleanDisk}
use Rattle.mqtt_keep.specs.declared.keeping.keep.KeepError.{KeepError}
use Rattle.mqtt_store_rows.specs.rows.Gives.{Gives}
use Rattle.mqtt_store_rows.specs.rows.Tables.{rows_in}
use Rattle.mqtt_store_rows.specs.gathering.Slim.{with_read}
use Rattle.mqtt_store_rows.specs.gathering.Thin.{AreCovered}
use Rattle.mqtt_store_rows.proofs.gathering_lemmas.GivenLemmas.{none_gathered, none_begun, slim_given, none_given}
use Rattle.mqtt_store_database.specs.declared.reading.reading.AddedTable.TheVariants.{Queued}
use Rattle.mqtt_store_database.specs.reading.Listing.{IsAddedListing}
use Rattle.mqtt_store_database.proofs.reading_lemmas.Loaded.{slim_as, listed_with, gives_none}
use Rattle.mqtt_store_database.proofs.reading_lemmas.Vacant.{still}
use Rattle.mqtt_store_database.proofs.reading.loading.given_with.Goals as goal

pub returns-in-Ok-new-clause-ok : goal.returns-in-Ok-new-clause-ok
returns-in-Ok-new-clause-ok g c =
    let old = state g.S.Store c.args.conn.now in
    let mid = state g.S.Store c.messages_in.new.conn in
    let one = c.in-Ok.ensures in
    let said = one.taken in
    let rows = rows_in c.args.tables.now in
    let q = c.in-Ok-new.ensures in
    let less = c.queues_in.ensures.reads.survives.clean in
    let covered : AreCovered c.in-Ok.gathered.whole rows.kept = subst (AreCovered c.in-Ok.gathered.whole) c.deref.ensures.value one.covered in
    IfOk-weaker c.queues_in.result _ _
    (λ slim it. slim_as (Gives (with_read said.0 it.0 rows)) _
    (λ r lawful gives making clean schema settled shared kept none.
    let tidy : HasCleanDisk mid = omega (arith, less, clean) in
    let same = (still old mid one.reads tidy (one.is_open tidy) settled).0 in
    let copies : IsAddedListing making Queued old.now.trees it.0 = subst (λ (d : Database). IsAddedListing making Queued d.trees it.0) same (it.2 making clean (ap (λ (d : Database). d.schema) same ∙ schema)) in
    record {
      rows = with_read said.0 it.0 rows;
      listed = listed_with making old.now.trees said.0 it.0 rows (said.2 making tidy schema) copies shared kept none;
      gives = gives;
      lawful = lawful;
    })
    slim (slim_given c.in-Ok.gathered said.0 it.0 rows said.1 covered q.messages.0 c.in-Ok-new.queues q.messages.1 q.heads slim it.1))
    c.queues_in.ensures.ok

pub returns-in-Ok-new-clause-err : goal.returns-in-Ok-new-clause-err
returns-in-Ok-new-clause-err g c making clean schema settled shared kept is r has =
    let old = state g.S.Store c.args.conn.now in
    let mid = state g.S.Store c.messages_in.new.conn in
    let one = c.in-Ok.ensures in
    let said = one.taken in
    let rows = rows_in c.args.tables.now in
    let q = c.in-Ok-new.ensures in
    let less = c.queues_in.ensures.reads.survives.clean in
    let covered : AreCovered c.in-Ok.gathered.whole rows.kept = subst (AreCovered c.in-Ok.gathered.whole) c.deref.ensures.value one.covered in
    let it = c.queues_in.ensures.err is in
    let tidy : HasCleanDisk mid = omega (arith, less, clean) in
    let same = (still old mid one.reads tidy (one.is_open tidy) settled).0 in
    let copies : IsAddedListing making Queued old.now.trees it.0 = subst (λ (d : Database). IsAddedListing making Queued d.trees it.0) same (it.2 making clean (ap (λ (d : Database). d.schema) same ∙ schema)) in
    gives_none making old.now.trees (with_read said.0 it.0 rows) (listed_with making old.now.trees said.0 it.0 rows (said.2 making tidy schema) copies shared kept has.listed.old)
    (none_given c.in-Ok.gathered said.0 it.0 rows said.1 covered q.messages.0 c.in-Ok-new.queues q.messages.1 q.heads q.begun.lawful it.1) r has

pub returns-in-Err-new-clause-err : goal.returns-in-Err-new-clause-err
returns-in-Err-new-clause-err g c making clean schema settled shared kept is r has =
    let old = state g.S.Store c.args.conn.now in
    let one = c.in-Ok.ensures in
    let said = one.taken in
    let rows = rows_in c.args.tables.now in
    let queued = has.rows.queued in
    let corrupt : c.in-Err-new.fault ≡ KeepError.Corrupt = cc in
    let covered : AreCovered c.in-Ok.gathered.whole rows.kept = subst (AreCovered c.in-Ok.gathered.whole) c.deref.ensures.value one.covered in
    gives_none making old.now.trees (with_read said.0 queued rows) (listed_with making old.now.trees said.0 queued rows (said.2 making clean schema) has.listed.added.queued shared kept has.listed.old)
    (elim (c.in-Err-new.ensures.err (ap Err corrupt)) [
      | inl broken ↦ (λ r gives lawful. none_gathered c.in-Ok.gathered said.0 queued rows said.1 broken r gives)
      | inr sound ↦ none_begun c.in-Ok.gathered said.0 queued rows said.1 covered sound.0 sound.1
    ]) r has

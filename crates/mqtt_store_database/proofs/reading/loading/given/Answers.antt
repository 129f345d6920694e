use Rattle.std.proofs.Common.{sym, ap, subst, ◌∙◌, arith}
use Rattle.sqlite.specs.Effect.{Database}
use Rattle.sqlite.specs.Held.{state}
use Rattle.sqlite.specs.State.{HasCleanDisk}
use Rattle.mqtt_store_rows.specs.rows.Tables.{rows_in}
use Rattle.mqtt_store_database.specs.declared.reading.reading.AddedTable.TheVariants.{Kept}
use Rattle.mqtt_store_database.specs.reading.Kept.{AreSharedListed, HasRecordsTwo}
use Rattle.mqtt_store_database.specs.reading.Listing.{IsAddedListing}
use Rattle.mqtt_store_database.specs.row_laws.Written.{HasNoOldRows}
use Rattle.mqtt_store_database.proofs.reading_lemmas.Vacant.{still}
use Rattle.mqtt_store_database.proofs.reading_lemmas.Loaded.{slim_so}
use Rattle.mqtt_store_database.proofs.reading.loading.given.Goals as goal

pub returns-in-Ok-clause-ok : goal.returns-in-Ok-clause-ok
returns-in-Ok-clause-ok g c =
    let old = state g.S.Store c.args.conn.now in
    let mid = state g.S.Store c.read_all.new.conn in
    let less = c.given_with-records.ensures.reads.survives.clean in
    let one = c.in-Ok.ensures in
    slim_so _ _
    (λ r lawful has making clean schema settled none.
    let tidy : HasCleanDisk mid = omega (arith, less, clean) in
    let stays = still old mid one.reads tidy (one.is_open tidy) settled in
    let same = stays.0 in
    let rows = rows_in c.read_all.new.tables in
    subst (λ (d : Database). HasRecordsTwo making d.trees r) same
    (has making clean (ap (λ (d : Database). d.schema) same ∙ schema) stays.1 (subst (λ (d : Database). AreSharedListed d.trees rows) (sym same) (one.shared making tidy schema settled))
    (subst (λ (d : Database). IsAddedListing making Kept d.trees rows.kept) (sym same) (one.kept making tidy schema settled)) (subst (λ (d : Database). HasNoOldRows making d.trees) (sym same) none)))
    c.given_with-records.result c.given_with-records.ensures.ok

pub returns-in-Ok-clause-err : goal.returns-in-Ok-clause-err
returns-in-Ok-clause-err g c making clean schema settled is r has =
    let old = state g.S.Store c.args.conn.now in
    let mid = state g.S.Store c.read_all.new.conn in
    let less = c.given_with-records.ensures.reads.survives.clean in
    let one = c.in-Ok.ensures in
    let tidy : HasCleanDisk mid = omega (arith, less, clean) in
    let stays = still old mid one.reads tidy (one.is_open tidy) settled in
    let same = stays.0 in
    let rows = rows_in c.read_all.new.tables in
    c.given_with-records.ensures.err making clean (ap (λ (d : Database). d.schema) same ∙ schema) stays.1 (subst (λ (d : Database). AreSharedListed d.trees rows) (sym same) (one.shared making tidy schema settled))
    (subst (λ (d : Database). IsAddedListing making Kept d.trees rows.kept) (sym same) (one.kept making tidy schema settled)) is r (subst (λ (d : Database). HasRecordsTwo making d.trees r) (sym same) has)

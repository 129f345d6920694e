use Rattle.std.proofs.Common.{ap, sym, subst, ◌∙◌, arith}
use Rattle.sqlite.specs.Effect.{Database}
use Rattle.sqlite.specs.Held.{state}
use Rattle.sqlite.specs.State.{HasCleanDisk}
use Rattle.mqtt_store_tables.specs.declared.schema.tables.Making.TheVariants.{TakenOver}
use Rattle.mqtt_store_database.specs.reading.Kept.{HasRecordsTwo}
use Rattle.mqtt_store_database.specs.row_laws.Written.{HasNoOldRows}
use Rattle.mqtt_store_database.proofs.reading_lemmas.Vacant.{still}
use Rattle.mqtt_store_database.proofs.reading_lemmas.Loaded.{slim_so}
use Rattle.mqtt_store_database.proofs.reading.loading.given_alone.Goals as goal

pub returns-in-Ok-true-clause-ok : goal.returns-in-Ok-true-clause-ok
returns-in-Ok-true-clause-ok g c =
    let old = state g.S.Store c.args.conn.now in
    let mid = state g.S.Store c.are_vacant.new.conn in
    let less = c.given.ensures.reads.survives.clean in
    let one = c.in-Ok-true.ensures in
    slim_so _ _
    (λ r lawful has clean schema settled.
    let tidy : HasCleanDisk mid = omega (arith, less, clean) in
    let same = still old mid one.reads tidy (one.is_open tidy) settled in
    subst (λ (d : Database). HasRecordsTwo TakenOver d.trees r) same.0
    (has TakenOver clean (ap (λ (d : Database). d.schema) same.0 ∙ schema) same.1 (subst (λ (d : Database). HasNoOldRows TakenOver d.trees) (sym same.0) (rw c.in-Ok-true.field-0-test at (one.vacant tidy schema settled)))))
    c.given.result c.given.ensures.ok

pub returns-in-Ok-true-clause-err : goal.returns-in-Ok-true-clause-err
returns-in-Ok-true-clause-err g c clean schema settled is r has =
    let old = state g.S.Store c.args.conn.now in
    let mid = state g.S.Store c.are_vacant.new.conn in
    let less = c.given.ensures.reads.survives.clean in
    let tidy : HasCleanDisk mid = omega (arith, less, clean) in
    let one = c.in-Ok-true.ensures in
    let same = still old mid one.reads tidy (one.is_open tidy) settled in
    c.given.ensures.err TakenOver clean (ap (λ (d : Database). d.schema) same.0 ∙ schema) same.1 is r (subst (λ (d : Database). HasRecordsTwo TakenOver d.trees r) (sym same.0) has)

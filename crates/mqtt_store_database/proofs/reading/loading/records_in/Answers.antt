use Rattle.std.proofs.Common.{◌≡◌, sym, subst}
use Rattle.sqlite.specs.Held.{state}
use Rattle.mqtt_store_tables.specs.schema.Tables.{second_schema}
use Rattle.mqtt_store_tables.specs.declared.schema.tables.Making.{Making}
use Rattle.mqtt_store_database.specs.row_laws.Written.{HasNoOldRows}
use Rattle.mqtt_store_database.specs.reading.Kept.{HasRecordsTwo}
use Rattle.mqtt_store_database.proofs.reading_lemmas.Loaded.{slim_so}
use Rattle.mqtt_store_database.proofs.reading.loading.records_in.Goals as goal

pub returns-in-New-clause-ok : goal.returns-in-New-clause-ok
returns-in-New-clause-ok g c =
    let now = (state g.S.Store c.args.conn.now).now in
    slim_so _ _ (λ r lawful has clean schema settled. has c.args.making clean schema settled (subst (λ (m : Making). HasNoOldRows m now.trees) (sym c.in-New.is) tt)) c.given.result c.given.ensures.ok

pub returns-in-TakenOver-clause-ok : goal.returns-in-TakenOver-clause-ok
returns-in-TakenOver-clause-ok g c =
    let now = (state g.S.Store c.args.conn.now).now in
    slim_so _ _
    (λ r lawful has clean schema settled.
    subst (λ (m : Making). HasRecordsTwo m now.trees r) (sym c.in-TakenOver.is) (has clean (subst (λ (m : Making). now.schema ≡ second_schema m) c.in-TakenOver.is schema) settled))
    c.given_alone.result c.given_alone.ensures.ok

pub returns-in-New-clause-err : goal.returns-in-New-clause-err
returns-in-New-clause-err g c clean schema settled is r has = c.given.ensures.err c.args.making clean schema settled is r has

pub returns-in-TakenOver-clause-err : goal.returns-in-TakenOver-clause-err
returns-in-TakenOver-clause-err g c clean schema settled is r has =
    let now = (state g.S.Store c.args.conn.now).now in
    c.given_alone.ensures.err clean (subst (λ (m : Making). now.schema ≡ second_schema m) c.in-TakenOver.is schema) settled is r (subst (λ (m : Making). HasRecordsTwo m now.trees r) c.in-TakenOver.is has)

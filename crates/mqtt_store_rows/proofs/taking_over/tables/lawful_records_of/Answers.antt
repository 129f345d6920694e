use Rattle.std.proofs.Common.{◌≡◌, ap, subst}
use Rattle.std.specs.Prelude.{Err}
use Rattle.mqtt_keep.specs.lawful.Lawful.{IsLawful}
use Rattle.mqtt_keep.specs.declared.keeping.keep.KeepError.{KeepError}
use Rattle.mqtt_store_rows.specs.taking_over.Tables.{rows_in}
use Rattle.mqtt_store_rows.proofs.values_lemmas.LawfulLemmas.{lawful_within}
use Rattle.mqtt_store_rows.proofs.taking_over_lemmas.OneLemmas.{one_records}
use Rattle.mqtt_store_rows.proofs.taking_over.tables.lawful_records_of.Goals as goal

pub returns-in-Err-clause-err : goal.returns-in-Err-clause-err
returns-in-Err-clause-err c e r gives lawful =
    let same : c.in-Err.fault ≡ KeepError.Corrupt = cc in
    c.in-Err.ensures.err (ap Err same) r gives (lawful_within r lawful)

pub returns-in-Ok-false-clause-err : goal.returns-in-Ok-false-clause-err
returns-in-Ok-false-clause-err c e r gives lawful =
    let found = c.in-Ok.ensures in
    let same : r ≡ c.in-Ok.records = one_records (rows_in c.args.tables.now) r c.in-Ok.records gives (lawful_within r lawful) found.ok found.within in
    let is = c.in-Ok-false.ensures.1 (subst IsLawful same lawful) in
    let no = c.in-Ok-false.field-0-test in
    absurd cc

use Rattle.std.proofs.Common.{◌≡◌, subst}
use Rattle.mqtt_keep.specs.lawful.Lawful.{IsLawful}
use Rattle.mqtt_store_rows.proofs.values_lemmas.LawfulLemmas.{lawful_within}
use Rattle.mqtt_store_rows.specs.rows.Tables.{rows_in}
use Rattle.mqtt_store_rows.proofs.rows_lemmas.OneLemmas.{one_heads}
use Rattle.mqtt_store_rows.proofs.gathering.queues.lawful_heads_of.Goals as goal

pub returns-in-Ok-false-clause-err : goal.returns-in-Ok-false-clause-err
returns-in-Ok-false-clause-err c e r heads lawful =
    let found = c.in-Ok.ensures in
    let same : r ≡ c.in-Ok.records = one_heads c.args.messages.now (rows_in c.args.tables.now) r c.in-Ok.records heads (lawful_within r lawful) found.ok found.within in
    let is = c.in-Ok-false.ensures.1 (subst IsLawful same lawful) in
    let no = c.in-Ok-false.field-0-test in
    absurd cc

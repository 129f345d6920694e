use Rattle.std.proofs.Common.{◌≡◌, subst}
use Rattle.mqtt_records.specs.messages.Queue.{IsSpelled}
use Rattle.mqtt_records.specs.messages.Refusals.{RefusesCopy}
use Rattle.mqtt_store_rows.specs.values.Ones.{one_message}
use Rattle.mqtt_store_rows.proofs.taking_over.copy.copy_of.Goals as goal

pub returns-in-Err-Unspelled-clause-err : goal.returns-in-Err-Unspelled-clause-err
returns-in-Err-Unspelled-clause-err c e x says =
    let same : x.copy ≡ c.in-Ok.copy = one_message x.copy c.in-Ok.copy _ says.message c.in-Ok.ensures.ok in
    let refused = subst (RefusesCopy c.in-Ok.copy) c.in-Err-Unspelled.field-0-is c.in-Err-Unspelled.ensures.refused in
    refused (subst IsSpelled same says.spelled)

use Rattle.std.proofs.Common.{◌≡◌, ap}
use Rattle.std.specs.Prelude.{Err}
use Rattle.mqtt_keep.specs.declared.keeping.keep.KeepError.{KeepError}
use Rattle.mqtt_store_rows.proofs.taking_over.copy.content_of.Goals as goal

pub returns-in-Err-clause-err : goal.returns-in-Err-clause-err
returns-in-Err-clause-err c e content ids says =
    let is : c.in-Err.fault ≡ KeepError.Corrupt = cc in
    c.in-Err.ensures.err (ap Err is) content.properties ids (rw c.value_at-7.ensures says.properties)

use Rattle.std.proofs.Common.{◌≡◌, ap}
use Rattle.std.specs.Prelude.{Err}
use Rattle.mqtt_keep.specs.declared.keeping.keep.KeepError.{KeepError}
use Rattle.mqtt_store_database.proofs.telling.content.content_of.Goals as goal

pub returns-in-Err-clause-err : goal.returns-in-Err-clause-err
returns-in-Err-clause-err c e said says =
    let same : c.in-Err.fault ≡ KeepError.Corrupt = cc in
    c.in-Err.ensures.err (ap Err same) said.identifiers (rw c.value_at-2.ensures says.identifiers)

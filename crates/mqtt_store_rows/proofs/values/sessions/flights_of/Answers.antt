use Rattle.std.proofs.Common.{◌≡◌, ap}
use Rattle.std.specs.Prelude.{Err}
use Rattle.mqtt_keep.specs.declared.keeping.keep.KeepError.{KeepError}
use Rattle.mqtt_store_rows.proofs.values.sessions.flights_of.Goals as goal

pub returns-in-Err-part_of-clause-err : goal.returns-in-Err-part_of-clause-err
returns-in-Err-part_of-clause-err c e ids queue rest more opened numbers queued places =
    let same : c.in-Err-part_of.fault ≡ KeepError.Corrupt = cc in
    c.in-Err-part_of.ensures.err (ap Err same) queue more queued places

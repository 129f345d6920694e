use Rattle.std.proofs.Common.{◌≡◌, ap}
use Rattle.std.specs.Prelude.{Err}
use Rattle.mqtt_keep.specs.declared.keeping.keep.KeepError.{KeepError}
use Rattle.mqtt_store_rows.proofs.values.sessions.wishes_of.Goals as goal

pub returns-in-Err-clause-err : goal.returns-in-Err-clause-err
returns-in-Err-clause-err c e will all rest more wills subs list =
    let same : c.in-Err.fault ≡ KeepError.Corrupt = cc in
    c.in-Err.ensures.err (ap Err same) all more subs list

pub returns-in-Err-will_part-clause-err : goal.returns-in-Err-will_part-clause-err
returns-in-Err-will_part-clause-err c e will all rest more wills subs list =
    let same : c.in-Err-will_part.fault ≡ KeepError.Corrupt = cc in
    c.in-Err-will_part.ensures.err (ap Err same) will rest wills

use Rattle.std.proofs.lemmas.Result.{err_from_is_err_and}
use Rattle.mqtt_records.proofs.messages_lemmas.PassedLemmas.{identified-refuses}
use Rattle.mqtt_records.proofs.messages.properties.push_identifiers.Goals as goal

pub returns-in_err-push-clause-refused : goal.returns-in_err-push-clause-refused
returns-in_err-push-clause-refused c =
    let p = err_from_is_err_and c.from_residual.result c.from_residual.ensures.1 in
    rw (p.1, p.2) (identified-refuses c.loop-identifier.list _ c.in-Some.identifier.now c.loop-identifier.rest.now c.in-Some.after.now c.in_err-push.field-0.0 c.in-Some.ensures.cases.0 c.loop-identifier.invariant c.in_err-push.ensures.refused)

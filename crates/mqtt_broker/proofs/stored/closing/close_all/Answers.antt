use Rattle.std.proofs.Common.{◌≡◌, rules, sym, subst}
use Rattle.std.specs.Prelude.{⊤, Result, Err, IfErr}
use Rattle.mqtt_rules.specs.step.Step.{opening}
use Rattle.mqtt_broker_step.specs.declared.fault.StepFault.{StepFault}
use Rattle.mqtt_broker.specs.stored.Closing.{LeftSome}
use Rattle.mqtt_broker.proofs.stored_lemmas.Going.{first_refused}
use Rattle.mqtt_broker.proofs.stored.closing.close_all.Goals as goal

pub returns-in_err-births-clause-left : goal.returns-in_err-births-clause-left
returns-in_err-births-clause-left c =
    let fault = c.in_err-births.field-0.0 in
    let s = c.args.step.now in
    let left : LeftSome opening fault s s = first_refused fault s c.in_err-births.ensures.fault in
    let is : c.from_residual.result ≡ Err fault = search rules in
    subst (λ (r : Result ⊤ StepFault). IfErr r (λ e. LeftSome opening e s s)) (sym is) left

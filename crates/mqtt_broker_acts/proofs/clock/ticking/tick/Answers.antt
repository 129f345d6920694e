use Rattle.std.proofs.Common.{◌≡◌, Bool, rules, sym, subst}
use Rattle.std.specs.Prelude.{Result, Err, IfErr, Some, None}
use Rattle.mqtt_rules.specs.step.Step.{Tick, deeds_of}
use Rattle.mqtt_broker_step.specs.declared.fault.StepFault.{StepFault}
use Rattle.mqtt_broker_queue.specs.publications.Choosing.{LeavesSome}
use Rattle.mqtt_broker_acts.proofs.clock_lemmas.Ticked.{tick_left, none_due, one_left, ticked}
use Rattle.mqtt_broker_acts.proofs.clock.ticking.tick.Goals as goal

pub returns-in_err-act-in-Some-clause-left : goal.returns-in_err-act-in-Some-clause-left
returns-in_err-act-in-Some-clause-left g c =
    let fault = c.in_err-act-in-Some.field-0.0 in
    let s = c.args.step.now in
    let new = c.act.new.step in
    let left : LeavesSome (λ env. deeds_of env Tick) fault s new =
    tick_left (Some c.in-Some.due) fault s new c.in-Some.ensures.deeds (one_left c.in-Some.due fault s new c.in_err-act-in-Some.ensures.left) in
    let is : c.from_residual.result ≡ Err fault = search rules in
    subst (λ (r : Result Bool StepFault). IfErr r (λ x. LeavesSome (λ env. deeds_of env Tick) x s new)) (sym is) left

pub returns-in-None-clause-ok : goal.returns-in-None-clause-ok
returns-in-None-clause-ok g c = ticked None c.args.step.now c.args.step.now c.in-None.ensures.deeds (none_due c.args.step.now)

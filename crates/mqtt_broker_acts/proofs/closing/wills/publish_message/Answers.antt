use Rattle.std.proofs.Common.{◌≡◌, rules, sym, subst}
use Rattle.std.specs.Prelude.{⊤, Result, Err, IfErr}
use Rattle.mqtt_broker_step.specs.declared.fault.StepFault.{StepFault}
use Rattle.mqtt_broker_step.specs.Stepping.{env_in}
use Rattle.mqtt_broker_queue.specs.publications.Choosing.{LeavesSome}
use Rattle.mqtt_broker_queue.proofs.publications_lemmas.Some.{leaves_some}
use Rattle.mqtt_broker_acts.specs.closing.Wills.{publishes}
use Rattle.mqtt_broker_acts.proofs.closing_lemmas.Willed.{memory_left}
use Rattle.mqtt_broker_acts.proofs.closing.wills.publish_message.Goals as goal

pub returns-in_err-routing-clause-left : goal.returns-in_err-routing-clause-left
returns-in_err-routing-clause-left g c = λ who.
    let s = c.args.step.now in
    let m = c.args.message.now in
    let left : LeavesSome (publishes who m) c.in_err-routing.field-0.0 s s =
    leaves_some (publishes who m) c.in_err-routing.field-0.0 s s
    (λ choice. memory_left (publishes who m (env_in choice s)) c.in_err-routing.field-0.0 s c.in_err-routing.ensures.fault) in
    let is : c.from_residual.result ≡ Err c.in_err-routing.field-0.0 = search rules in
    subst (λ (r : Result ⊤ StepFault). IfErr r (λ fault. LeavesSome (publishes who m) fault s s)) (sym is) left

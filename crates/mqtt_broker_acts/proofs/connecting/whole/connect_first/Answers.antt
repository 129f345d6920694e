use Rattle.std.proofs.Common.{◌≡◌, rules, sym, subst}
use Rattle.std.specs.Prelude.{Result, Err, IfErr}
use Rattle.mqtt_rules.specs.step.Connect.{on_connect}
use Rattle.mqtt_broker_step.specs.declared.fault.StepFault.{StepFault}
use Rattle.mqtt_broker_queue.specs.publications.Choosing.{LeavesSome}
use Rattle.mqtt_broker_queue.proofs.publications_lemmas.Some.{leaves_some}
use Rattle.mqtt_broker_acts.specs.declared.connecting.joining.Joined.{Joined}
use Rattle.mqtt_broker_acts.proofs.connecting_lemmas.Once.{done_at_once}
use Rattle.mqtt_broker_acts.proofs.connecting.whole.connect_first.Goals as goal

pub returns-clause-ok : goal.returns-clause-ok
returns-clause-ok c = λ l number. done_at_once l c.args.connect.now c.args.step.now c.connect_new.new.step (c.in_ok-connect_new.ensures.ok l number)

pub returns-in_err-connect_new-clause-left : goal.returns-in_err-connect_new-clause-left
returns-in_err-connect_new-clause-left c = λ l number.
    let fault = c.in_err-connect_new.field-0.0 in
    let left : LeavesSome (λ env. on_connect env l c.args.connect.now) fault c.args.step.now c.connect_new.new.step =
    leaves_some (λ env. on_connect env l c.args.connect.now) fault c.args.step.now c.connect_new.new.step (c.in_err-connect_new.ensures.left l number) in
    let is : c.from_residual.result ≡ Err fault = search rules in
    subst (λ (r : Result Joined StepFault). IfErr r (λ x. LeavesSome (λ env. on_connect env l c.args.connect.now) x c.args.step.now c.connect_new.new.step)) (sym is) left

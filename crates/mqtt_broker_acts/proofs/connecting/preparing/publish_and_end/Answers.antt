use Rattle.std.proofs.Common.{◌≡◌, rules, sym, subst}
use Rattle.std.specs.Prelude.{⊤, Result, Err, IfErr}
use Rattle.mqtt_broker_step.specs.declared.fault.StepFault.{StepFault}
use Rattle.mqtt_broker_step.specs.Stepping.{Leaves}
use Rattle.mqtt_broker_step.proofs.Doing.{on_ok, if_err}
use Rattle.mqtt_broker_queue.specs.publications.Choosing.{LeavesSome}
use Rattle.mqtt_broker_queue.proofs.publications_lemmas.Some.{does_then, leaves_first, leaves_then, some_then, some_left_first, some_left_then}
use Rattle.mqtt_broker_acts.specs.closing.Ending.{ends}
use Rattle.mqtt_broker_acts.specs.closing.Wills.{publishes_will}
use Rattle.mqtt_broker_acts.specs.connecting.Preparing.{clears}
use Rattle.mqtt_broker_acts.proofs.connecting.preparing.publish_and_end.Goals as goal

pub returns-clause-ok : goal.returns-clause-ok
returns-clause-ok g c =
    on_ok c.end_session.result
    (λ is. some_then (publishes_will c.args.birth) (λ env. ends c.args.birth) c.args.step.now c.publish_will.new.step c.end_session.new.step c.in_ok-publish_will.ensures.ok (λ choice. is))
    c.end_session.ensures.ok

pub returns-clause-left : goal.returns-clause-left
returns-clause-left g c =
    if_err c.end_session.result
    (λ fault left. some_left_then (publishes_will c.args.birth) (λ env. ends c.args.birth) fault c.args.step.now c.publish_will.new.step c.end_session.new.step c.in_ok-publish_will.ensures.ok (λ choice. left))
    c.end_session.ensures.left

pub returns-clause-quiet : goal.returns-clause-quiet
returns-clause-quiet g c = λ none.
    on_ok c.end_session.result
    (λ is. does_then (publishes_will c.args.birth) (λ env. ends c.args.birth) c.args.step.now c.publish_will.new.step c.end_session.new.step (c.in_ok-publish_will.ensures.quiet none) (λ choice. is))
    c.end_session.ensures.ok

pub returns-clause-quiet_left : goal.returns-clause-quiet_left
returns-clause-quiet_left g c = λ none.
    if_err c.end_session.result
    (λ fault left. leaves_then (publishes_will c.args.birth) (λ env. ends c.args.birth) fault c.args.step.now c.publish_will.new.step c.end_session.new.step (c.in_ok-publish_will.ensures.quiet none) (λ choice. left))
    c.end_session.ensures.left

pub returns-in_err-publish_will-clause-left : goal.returns-in_err-publish_will-clause-left
returns-in_err-publish_will-clause-left g c =
    let fault = c.in_err-publish_will.field-0.0 in
    let left : LeavesSome (clears c.args.birth) fault c.args.step.now c.publish_will.new.step =
    some_left_first (publishes_will c.args.birth) (λ env. ends c.args.birth) fault c.args.step.now c.publish_will.new.step c.in_err-publish_will.ensures.left in
    let is : c.from_residual.result ≡ Err fault = search rules in
    subst (λ (r : Result ⊤ StepFault). IfErr r (λ x. LeavesSome (clears c.args.birth) x c.args.step.now c.publish_will.new.step)) (sym is) left

pub returns-in_err-publish_will-clause-quiet_left : goal.returns-in_err-publish_will-clause-quiet_left
returns-in_err-publish_will-clause-quiet_left g c = λ none.
    let fault = c.in_err-publish_will.field-0.0 in
    let left : Leaves (clears c.args.birth) fault c.args.step.now c.publish_will.new.step =
    leaves_first (publishes_will c.args.birth) (λ env. ends c.args.birth) fault c.args.step.now c.publish_will.new.step (c.in_err-publish_will.ensures.quiet_left none) in
    let is : c.from_residual.result ≡ Err fault = search rules in
    subst (λ (r : Result ⊤ StepFault). IfErr r (λ x. Leaves (clears c.args.birth) x c.args.step.now c.publish_will.new.step)) (sym is) left

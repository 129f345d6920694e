use Rattle.std.proofs.Common.{◌≡◌, ◌<◌, arith, rules, sym, subst}
use Rattle.std.specs.Prelude.{⊤, Result, Err, IfErr}
use Rattle.mqtt_broker_step.specs.declared.fault.StepFault.{StepFault}
use Rattle.mqtt_broker_step.specs.Stepping.{IsLeft}
use Rattle.mqtt_broker_step.proofs.Doing.{on_ok, if_err}
use Rattle.mqtt_broker_acts.specs.closing.Ending.{ends}
use Rattle.mqtt_broker_acts.proofs.closing_lemmas.Ended.{ends_step, ends_left, ends_last, ends_last_left}
use Rattle.mqtt_broker_acts.proofs.closing.ending.end_session.Goals as goal

pub loop-left-preserved : goal.loop-left-preserved
loop-left-preserved c =
    let some : 0 < c.loop-left.left = omega arith in
    ends_step c.args.birth c.loop-left.left c.args.step.now c.loop-left.step c.leave_first.new.step c.loop-left.invariant some c.in_ok-leave_first.ensures.ok

pub returns-in_err-leave_first-clause-left : goal.returns-in_err-leave_first-clause-left
returns-in_err-leave_first-clause-left c =
    let fault = c.in_err-leave_first.field-0.0 in
    let left : IsLeft (ends c.args.birth) fault c.args.step.now c.leave_first.new.step =
    ends_left c.args.birth c.loop-left.left fault c.args.step.now c.loop-left.step c.leave_first.new.step c.loop-left.invariant c.in_err-leave_first.ensures.left in
    let is : c.from_residual.result ≡ Err fault = search rules in
    subst (λ (r : Result ⊤ StepFault). IfErr r (λ x. IsLeft (ends c.args.birth) x c.args.step.now c.leave_first.new.step)) (sym is) left

pub returns-clause-ok : goal.returns-clause-ok
returns-clause-ok c =
    let none : c.loop-left.left ≡ 0 = omega arith in
    on_ok c.finish.result (ends_last c.args.birth c.loop-left.left c.args.step.now c.loop-left.step c.finish.new.step c.loop-left.invariant none) c.finish.ensures.ok

pub returns-clause-left : goal.returns-clause-left
returns-clause-left c =
    let none : c.loop-left.left ≡ 0 = omega arith in
    if_err c.finish.result (λ fault. ends_last_left c.args.birth c.loop-left.left fault c.args.step.now c.loop-left.step c.finish.new.step c.loop-left.invariant none) c.finish.ensures.left

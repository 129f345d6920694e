use Rattle.std.proofs.Common.{◌≡◌, rules, sym, subst}
use Rattle.std.specs.Prelude.{Result, Err, IfErr, OnErr}
use Rattle.mqtt_broker_step.specs.declared.fault.StepFault.{StepFault}
use Rattle.mqtt_broker_step.specs.Stepping.{Leaves}
use Rattle.mqtt_broker_acts.specs.declared.connecting.joining.Joined.{Joined}
use Rattle.mqtt_broker_acts.specs.connecting.Joining.{IsPlaced, joins_now}
use Rattle.mqtt_broker_acts.proofs.connecting_lemmas.AfterPreparing.{named_placed, resumed_joins, resumed_left}
use Rattle.mqtt_broker_acts.proofs.connecting.joining.resume_named.Goals as goal

pub returns-in_err-resume-clause-left : goal.returns-in_err-resume-clause-left
returns-in_err-resume-clause-left c = λ l number.
    let left : Leaves (joins_now l c.args.connect.now) c.in_err-resume.field-0.0 c.args.step.now c.resume.new.step =
    resumed_left l c.args.connect.now c.requires.session c.in_err-resume.field-0.0 c.args.step.now c.resume.new.step c.requires.named (c.in_err-resume.ensures.left l c.requires.session number c.requires.at) in
    let is : c.from_residual.result ≡ Err c.in_err-resume.field-0.0 = search rules in
    subst (λ (r : Result Joined StepFault). IfErr r (λ fault. Leaves (joins_now l c.args.connect.now) fault c.args.step.now c.resume.new.step)) (sym is) left

pub returns-in_err-resume-clause-place : goal.returns-in_err-resume-clause-place
returns-in_err-resume-clause-place c =
    let is : c.from_residual.result ≡ Err c.in_err-resume.field-0.0 = search rules in
    subst (λ (r : Result Joined StepFault). OnErr r (IsPlaced c.args.connect.now c.args.step.now)) (sym is)
    (named_placed c.args.connect.now c.requires.session c.args.step.now c.requires.named)

pub returns-clause-ok : goal.returns-clause-ok
returns-clause-ok c = λ l number.
    resumed_joins l c.args.connect.now c.requires.session c.args.step.now c.resume.new.step c.requires.named (c.in_ok-resume.ensures.ok l c.requires.session number c.requires.at)

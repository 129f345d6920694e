use Rattle.std.proofs.Common.{◌≡◌, rules, sym, subst}
use Rattle.std.specs.Prelude.{⊤, Result, Err, IfErr}
use Rattle.mqtt_rules.specs.step.Closing.{settle}
use Rattle.mqtt_broker_step.specs.declared.fault.StepFault.{StepFault}
use Rattle.mqtt_broker_step.specs.Stepping.{Leaves}
use Rattle.mqtt_broker_step.proofs.Doing.{on_ok, if_err}
use Rattle.mqtt_broker_queue.specs.publications.Choosing.{LeavesSome}
use Rattle.mqtt_broker_acts.proofs.closing_lemmas.Closed.{settled_once}
use Rattle.mqtt_broker_acts.proofs.closing_lemmas.Settled.{settled, settled_quiet, settle_left_first, settle_quiet_first, settle_left_then, settle_quiet_then}
use Rattle.mqtt_broker_acts.proofs.closing.settling.settle.Goals as goal

pub returns-clause-ok : goal.returns-clause-ok
returns-clause-ok g c =
    on_ok c.settle_end.result
    (settled c.moment-moment.result c.args.birth c.args.step.now c.settle_will.new.step c.settle_end.new.step c.moment-moment.ensures c.in_ok-settle_will.ensures.ok)
    c.settle_end.ensures.ok

pub returns-clause-quiet : goal.returns-clause-quiet
returns-clause-quiet g c = λ none.
    on_ok c.settle_end.result
    (settled_quiet c.moment-moment.result c.args.birth c.args.step.now c.settle_will.new.step c.settle_end.new.step c.moment-moment.ensures (c.in_ok-settle_will.ensures.quiet none))
    c.settle_end.ensures.ok

pub returns-clause-left : goal.returns-clause-left
returns-clause-left g c =
    if_err c.settle_end.result
    (λ fault. settle_left_then c.moment-moment.result c.args.birth fault c.args.step.now c.settle_will.new.step c.settle_end.new.step c.moment-moment.ensures c.in_ok-settle_will.ensures.ok)
    c.settle_end.ensures.left

pub returns-clause-quiet_left : goal.returns-clause-quiet_left
returns-clause-quiet_left g c = λ none.
    if_err c.settle_end.result
    (λ fault. settle_quiet_then c.moment-moment.result c.args.birth fault c.args.step.now c.settle_will.new.step c.settle_end.new.step c.moment-moment.ensures (c.in_ok-settle_will.ensures.quiet none))
    c.settle_end.ensures.left

pub returns-in_err-settle_will-clause-left : goal.returns-in_err-settle_will-clause-left
returns-in_err-settle_will-clause-left g c =
    let fault = c.in_err-settle_will.field-0.0 in
    let left : LeavesSome (λ env. settle env c.args.birth) fault c.args.step.now c.settle_will.new.step =
    settle_left_first c.moment-moment.result c.args.birth fault c.args.step.now c.settle_will.new.step c.moment-moment.ensures c.in_err-settle_will.ensures.left in
    let is : c.from_residual.result ≡ Err fault = search rules in
    subst (λ (r : Result ⊤ StepFault). IfErr r (λ x. LeavesSome (λ env. settle env c.args.birth) x c.args.step.now c.settle_will.new.step)) (sym is) left

pub returns-in_err-settle_will-clause-quiet_left : goal.returns-in_err-settle_will-clause-quiet_left
returns-in_err-settle_will-clause-quiet_left g c = λ none.
    let fault = c.in_err-settle_will.field-0.0 in
    let left : Leaves (λ env. settle env c.args.birth) fault c.args.step.now c.settle_will.new.step =
    settle_quiet_first c.moment-moment.result c.args.birth fault c.args.step.now c.settle_will.new.step c.moment-moment.ensures (c.in_err-settle_will.ensures.quiet_left none) in
    let is : c.from_residual.result ≡ Err fault = search rules in
    subst (λ (r : Result ⊤ StepFault). IfErr r (λ x. Leaves (λ env. settle env c.args.birth) x c.args.step.now c.settle_will.new.step)) (sym is) left

pub returns-clause-once : goal.returns-clause-once
returns-clause-once g c =
    on_ok c.settle_end.result
    (settled_once c.moment-moment.result c.args.birth c.args.step.now c.settle_will.new.step c.settle_end.new.step c.moment-moment.ensures c.in_ok-settle_will.ensures.once)
    c.settle_end.ensures.ok

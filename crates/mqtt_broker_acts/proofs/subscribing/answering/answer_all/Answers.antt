use Rattle.std.proofs.Common.{◌≡◌, List, rules, sym, subst}
use Rattle.std.specs.Prelude.{⊤, Result, Err, IfErr}
use Rattle.mqtt_packet.specs.subscribe.Subscriptions.{Subscription as Asked}
use Rattle.mqtt_broker_step.specs.declared.fault.StepFault.{StepFault}
use Rattle.mqtt_broker_step.specs.Stepping.{Leaves}
use Rattle.mqtt_broker_acts.specs.subscribing.Answering.{answers_all, asking}
use Rattle.mqtt_broker_acts.proofs.subscribing_lemmas.AllAnswers.{Answering, answers_first, answers_fit, answers_step, answers_left, answers_done, answers_codes, answers_late}
use Rattle.mqtt_broker_acts.proofs.subscribing.answering.answer_all.Goals as goal

pub loop-asked-init : goal.loop-asked-init
loop-asked-init c =
    subst (λ (ys : List Asked). Answering c.args.birth c.args.identifier ys c.args.filters.now c.args.codes.now.items c.args.late.now.items c.args.step.now c.args.step.now)
    (sym c.lend-rest.ensures)
    (answers_first c.args.birth c.args.identifier c.args.filters.now c.args.codes.now.items c.args.late.now.items c.args.step.now
    c.requires.codes c.requires.late c.requires.once c.requires.lawful c.requires.fit)

pub answer_one-requires-clause-fits : goal.answer_one-requires-clause-fits
answer_one-requires-clause-fits c =
    answers_fit c.args.birth c.args.identifier (asking c.in-Some.asked.filter.now c.in-Some.asked.options) c.in-Some.after c.loop-asked.rest c.args.filters.now c.loop-asked.codes.items c.loop-asked.late.items c.args.step.now c.loop-asked.step
    c.in-Some.ensures c.loop-asked.invariant

pub loop-asked-preserved : goal.loop-asked-preserved
loop-asked-preserved c =
    answers_step c.args.birth c.args.identifier (asking c.in-Some.asked.filter.now c.in-Some.asked.options) c.in-Some.after c.loop-asked.rest c.args.filters.now
    c.loop-asked.codes.items c.answer_one.new.codes.items c.loop-asked.late.items c.answer_one.new.late.items c.args.step.now c.loop-asked.step c.answer_one.new.step
    c.in-Some.ensures c.loop-asked.invariant c.in_ok-answer_one.ensures.ok c.in_ok-answer_one.ensures.code c.in_ok-answer_one.ensures.late c.in_ok-answer_one.ensures.spelled

pub returns-clause-ok : goal.returns-clause-ok
returns-clause-ok c =
    answers_done c.args.birth c.args.identifier c.loop-asked.rest c.args.filters.now c.loop-asked.codes.items c.loop-asked.late.items c.args.step.now c.loop-asked.step
    c.in_default.ensures c.loop-asked.invariant

pub returns-clause-codes : goal.returns-clause-codes
returns-clause-codes c = λ choice.
    answers_codes c.args.birth c.args.identifier c.loop-asked.rest c.args.filters.now c.loop-asked.codes.items c.loop-asked.late.items c.args.step.now c.loop-asked.step choice
    c.in_default.ensures c.loop-asked.invariant

pub returns-clause-late : goal.returns-clause-late
returns-clause-late c = λ choice.
    answers_late c.args.birth c.args.identifier c.loop-asked.rest c.args.filters.now c.loop-asked.codes.items c.loop-asked.late.items c.args.step.now c.loop-asked.step choice
    c.in_default.ensures c.loop-asked.invariant

pub returns-in_err-answer_one-clause-left : goal.returns-in_err-answer_one-clause-left
returns-in_err-answer_one-clause-left c =
    let left : Leaves (answers_all c.args.birth c.args.identifier c.args.filters.now) c.in_err-answer_one.field-0.0 c.args.step.now c.answer_one.new.step =
    answers_left c.args.birth c.args.identifier (asking c.in-Some.asked.filter.now c.in-Some.asked.options) c.in-Some.after c.loop-asked.rest c.args.filters.now c.loop-asked.codes.items c.loop-asked.late.items c.in_err-answer_one.field-0.0 c.args.step.now c.loop-asked.step c.answer_one.new.step
    c.in-Some.ensures c.loop-asked.invariant c.in_err-answer_one.ensures.left in
    let is : c.from_residual.result ≡ Err c.in_err-answer_one.field-0.0 = search rules in
    subst (λ (r : Result ⊤ StepFault). IfErr r (λ fault. Leaves (answers_all c.args.birth c.args.identifier c.args.filters.now) fault c.args.step.now c.answer_one.new.step)) (sym is) left

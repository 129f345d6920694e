use Rattle.std.proofs.Common.{◌≡◌, ◌<◌, [], ◌∷◌, ◌++◌, None, rules, arith, refl}
use Rattle.mqtt_base.specs.Codes.{topic_filter_invalid}
use Rattle.mqtt_broker_queue.specs.publications.Delivering.{addressed_all}
use Rattle.mqtt_broker_step.specs.Stepping.{env_in}
use Rattle.mqtt_broker_step.proofs.Doing.{on_ok, if_err}
use Rattle.mqtt_broker_acts.proofs.subscribing_lemmas.AllAnswers.{no_options, unread_does, unread_code, unread_late, read_does, read_left, read_code, read_late}
use Rattle.mqtt_broker_acts.proofs.subscribing.answering.answer_one.Goals as goal

pub returns-in_default-clause-ok : goal.returns-in_default-clause-ok
returns-in_default-clause-ok c =
    let small : c.args.byte < 256 = omega arith in
    unread_does c.args.birth c.args.identifier c.args.filter.now c.args.byte c.args.step.now (no_options c.args.byte None small refl c.in_default.ensures.only)

pub returns-in_default-clause-code : goal.returns-in_default-clause-code
returns-in_default-clause-code c = λ choice.
    let small : c.args.byte < 256 = omega arith in
    let pushed : c.push.new.self.items ≡ c.args.codes.now.items ++ topic_filter_invalid ∷ [] = search rules in
    unread_code c.args.birth c.args.identifier c.args.filter.now c.args.byte c.args.codes.now.items c.push.new.self.items (env_in choice c.args.step.now) c.args.step.now.broker
    (no_options c.args.byte None small refl c.in_default.ensures.only) pushed

pub returns-in_default-clause-late : goal.returns-in_default-clause-late
returns-in_default-clause-late c = λ choice.
    let small : c.args.byte < 256 = omega arith in
    unread_late c.args.birth c.args.identifier c.args.filter.now c.args.byte (addressed_all c.args.late.now.items) (env_in choice c.args.step.now) c.args.step.now.broker
    (no_options c.args.byte None small refl c.in_default.ensures.only)

pub returns-clause-ok : goal.returns-clause-ok
returns-clause-ok c =
    on_ok c.answer_filter.result
    (read_does c.args.birth c.args.identifier c.args.filter.now c.in_ok-text.text c.args.byte c.in-Some.options c.args.step.now c.answer_filter.new.step c.in-Some.ensures.found c.in_ok-text.ensures)
    c.answer_filter.ensures.ok

pub returns-clause-code : goal.returns-clause-code
returns-clause-code c = λ choice.
    on_ok c.answer_filter.result
    (read_code c.args.birth c.args.identifier c.args.filter.now c.in_ok-text.text c.args.byte c.in-Some.options c.args.codes.now.items c.answer_filter.new.codes.items (env_in choice c.args.step.now) c.args.step.now.broker
    c.in-Some.ensures.found c.in_ok-text.ensures)
    (c.answer_filter.ensures.code choice)

pub returns-clause-late : goal.returns-clause-late
returns-clause-late c = λ choice.
    on_ok c.answer_filter.result
    (read_late c.args.birth c.args.identifier c.args.filter.now c.in_ok-text.text c.args.byte c.in-Some.options (addressed_all c.args.late.now.items) (addressed_all c.answer_filter.new.late.items) (env_in choice c.args.step.now) c.args.step.now.broker
    c.in-Some.ensures.found c.in_ok-text.ensures)
    (c.answer_filter.ensures.late choice)

pub returns-clause-left : goal.returns-clause-left
returns-clause-left c =
    if_err c.answer_filter.result
    (λ fault. read_left c.args.birth c.args.identifier c.args.filter.now c.in_ok-text.text c.args.byte c.in-Some.options fault c.args.step.now c.answer_filter.new.step c.in-Some.ensures.found c.in_ok-text.ensures)
    c.answer_filter.ensures.left

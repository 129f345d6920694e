use Rattle.std.proofs.Common.{◌≡◌, rules, sym, subst}
use Rattle.std.specs.Prelude.{⊤, Some, Result, Err, IfErr}
use Rattle.mqtt_rules.specs.step.Deeds.{FromClient}
use Rattle.mqtt_rules.specs.step.Inbound.{publish_new}
use Rattle.mqtt_broker_step.specs.declared.fault.StepFault.{StepFault}
use Rattle.mqtt_broker_step.specs.Stepping.{IsLeft, env_in}
use Rattle.mqtt_broker_step.proofs.Doing.{on_ok, if_err}
use Rattle.mqtt_broker_queue.specs.publications.Delivering.{addressed_all}
use Rattle.mqtt_broker_queue.proofs.publications_lemmas.Taken.{taken_is, publish_left, open_left, answer_left}
use Rattle.mqtt_broker_queue.proofs.publications.taking.publish_taken.Goals as goal

pub returns-clause-ok : goal.returns-clause-ok
returns-clause-ok c = λ choice l x p number found same wanted.
    on_ok c.answer.result
    (taken_is choice c.args.line c.args.birth c.accepted_code.result.0 c.args.delivery c.args.message.now c.args.wanted l x p (addressed_all c.args.copies)
    c.args.step.now c.publish.new.step c.open_by.new.step c.answer.new.step
    (record { number = number; found = found; delivery = same; is_there = wanted }) c.accepted_code.ensures c.in_ok-publish.ensures.sessions
    (c.in_ok-publish.ensures.ok FromClient) c.in_ok-open_by.ensures.ok)
    c.answer.ensures.ok

pub returns-clause-left : goal.returns-clause-left
returns-clause-left c = λ choice l x p number found same wanted.
    if_err c.answer.result
    (λ fault. answer_left choice c.args.line c.args.birth c.accepted_code.result.0 c.args.delivery c.args.message.now c.args.wanted l x p (addressed_all c.args.copies) fault
    c.args.step.now c.publish.new.step c.open_by.new.step c.answer.new.step
    (record { number = number; found = found; delivery = same; is_there = wanted }) c.accepted_code.ensures c.in_ok-publish.ensures.sessions
    (c.in_ok-publish.ensures.ok FromClient) c.in_ok-open_by.ensures.ok)
    c.answer.ensures.left

pub returns-in_err-publish-clause-left : goal.returns-in_err-publish-clause-left
returns-in_err-publish-clause-left c = λ choice l x p number found same wanted.
    let left : IsLeft (publish_new (env_in choice c.args.step.now) l x p c.args.message.now (Some (addressed_all c.args.copies))) c.in_err-publish.field-0.0 c.args.step.now c.publish.new.step =
    publish_left choice c.args.line c.args.birth c.args.delivery c.args.message.now c.args.wanted l x p (addressed_all c.args.copies) c.in_err-publish.field-0.0 c.args.step.now c.publish.new.step
    (record { number = number; found = found; delivery = same; is_there = wanted }) (c.in_err-publish.ensures.left FromClient) in
    let is : c.from_residual.result ≡ Err c.in_err-publish.field-0.0 = search rules in
    subst (λ (r : Result ⊤ StepFault). IfErr r (λ fault. IsLeft (publish_new (env_in choice c.args.step.now) l x p c.args.message.now (Some (addressed_all c.args.copies))) fault c.args.step.now c.publish.new.step)) (sym is) left

pub returns-in_err-open_by-clause-left : goal.returns-in_err-open_by-clause-left
returns-in_err-open_by-clause-left c = λ choice l x p number found same wanted.
    let left : IsLeft (publish_new (env_in choice c.args.step.now) l x p c.args.message.now (Some (addressed_all c.args.copies))) c.in_err-open_by.field-0.0 c.args.step.now c.open_by.new.step =
    open_left choice c.args.line c.args.birth c.args.delivery c.args.message.now c.args.wanted l x p (addressed_all c.args.copies) c.in_err-open_by.field-0.0 c.args.step.now c.publish.new.step c.open_by.new.step
    (record { number = number; found = found; delivery = same; is_there = wanted }) c.in_ok-publish.ensures.sessions (c.in_ok-publish.ensures.ok FromClient) c.in_err-open_by.ensures.left in
    let is : c.from_residual-in_err-open_by.result ≡ Err c.in_err-open_by.field-0.0 = search rules in
    subst (λ (r : Result ⊤ StepFault). IfErr r (λ fault. IsLeft (publish_new (env_in choice c.args.step.now) l x p c.args.message.now (Some (addressed_all c.args.copies))) fault c.args.step.now c.open_by.new.step)) (sym is) left

use Rattle.std.proofs.Common.{◌≡◌, rules, sym, subst}
use Rattle.std.specs.Prelude.{⊤, Result, Err, IfErr}
use Rattle.mqtt_rules.specs.step.Deeds.{whose}
use Rattle.mqtt_broker_step.specs.declared.fault.StepFault.{StepFault}
use Rattle.mqtt_broker_step.proofs.Doing.{on_ok, if_err}
use Rattle.mqtt_broker_queue.specs.publications.Choosing.{LeavesSome}
use Rattle.mqtt_broker_acts.specs.closing.Wills.{publishes_will}
use Rattle.mqtt_broker_acts.proofs.closing_lemmas.Closed.{will_gone}
use Rattle.mqtt_broker_acts.proofs.closing_lemmas.Willed.{Wills, wills, birth_is, client_is, will_done, will_first_left, will_then_left}
use Rattle.mqtt_broker_acts.proofs.closing.wills.publish_and_drop.Goals as goal

pub returns-clause-ok : goal.returns-clause-ok
returns-clause-ok g c =
    let s = c.args.step.now in
    let m = c.args.message.now in
    let w : Wills c.args.birth m s.broker.records = wills c.args.birth m s.broker.records c.requires.message in
    on_ok c.drop_will.result
    (will_done c.args.birth m s c.publish_message.new.step c.drop_will.new.self w c.in_ok-publish_message.ensures.sessions
    (c.in_ok-publish_message.ensures.ok (whose w.session) (birth_is c.args.birth m s.broker.records w) (client_is c.args.birth m s.broker.records w)))
    c.drop_will.ensures.ok

pub returns-clause-left : goal.returns-clause-left
returns-clause-left g c =
    let s = c.args.step.now in
    let m = c.args.message.now in
    let w : Wills c.args.birth m s.broker.records = wills c.args.birth m s.broker.records c.requires.message in
    if_err c.drop_will.result
    (λ fault. will_then_left c.args.birth m fault s c.publish_message.new.step c.drop_will.new.self w c.in_ok-publish_message.ensures.sessions
    (c.in_ok-publish_message.ensures.ok (whose w.session) (birth_is c.args.birth m s.broker.records w) (client_is c.args.birth m s.broker.records w)))
    c.drop_will.ensures.left

pub returns-in_err-publish_message-clause-left : goal.returns-in_err-publish_message-clause-left
returns-in_err-publish_message-clause-left g c =
    let s = c.args.step.now in
    let m = c.args.message.now in
    let w : Wills c.args.birth m s.broker.records = wills c.args.birth m s.broker.records c.requires.message in
    let left : LeavesSome (publishes_will c.args.birth) c.in_err-publish_message.field-0.0 s c.publish_message.new.step =
    will_first_left c.args.birth m c.in_err-publish_message.field-0.0 s c.publish_message.new.step w (c.in_err-publish_message.ensures.left (whose w.session)) in
    let is : c.from_residual.result ≡ Err c.in_err-publish_message.field-0.0 = search rules in
    subst (λ (r : Result ⊤ StepFault). IfErr r (λ fault. LeavesSome (publishes_will c.args.birth) fault s c.publish_message.new.step)) (sym is) left

pub returns-clause-gone : goal.returns-clause-gone
returns-clause-gone g c =
    on_ok c.drop_will.result (will_gone c.args.birth c.publish_message.new.step c.drop_will.new.self) c.drop_will.ensures.ok

use Rattle.std.proofs.Common.{◌≡◌, rules, sym, subst, inl, inr}
use Rattle.std.specs.Prelude.{⊤, Result, Err, IfErr, Some, None}
use Rattle.mqtt_broker_step.specs.declared.fault.StepFault.{StepFault}
use Rattle.mqtt_broker_step.specs.Stepping.{env_in}
use Rattle.mqtt_broker_step.proofs.Doing.{on_ok}
use Rattle.mqtt_broker_queue.specs.publications.Choosing.{LeavesSome}
use Rattle.mqtt_broker_queue.proofs.publications_lemmas.Some.{does_some, leaves_some}
use Rattle.mqtt_broker_acts.specs.closing.Wills.{message_at, publishes_will}
use Rattle.mqtt_broker_acts.proofs.closing_lemmas.Willed.{wills, lawful_will, has_will, memory_left, no_will_did, unwilled}
use Rattle.mqtt_broker_acts.proofs.closing.wills.publish_will.Goals as goal

pub returns-in_err-message-clause-left : goal.returns-in_err-message-clause-left
returns-in_err-message-clause-left g c =
    let s = c.args.step.now in
    let left : LeavesSome (publishes_will c.args.birth) c.in_err-message.field-0.0 s s =
    leaves_some (publishes_will c.args.birth) c.in_err-message.field-0.0 s s
    (λ choice. memory_left (publishes_will c.args.birth (env_in choice s)) c.in_err-message.field-0.0 s c.in_err-message.ensures.fault) in
    let is : c.from_residual.result ≡ Err c.in_err-message.field-0.0 = search rules in
    subst (λ (r : Result ⊤ StepFault). IfErr r (λ fault. LeavesSome (publishes_will c.args.birth) fault s s)) (sym is) left

pub publish_and_drop-published-requires-clause-lawful : goal.publish_and_drop-published-requires-clause-lawful
publish_and_drop-published-requires-clause-lawful g c =
    let r = c.args.step.now.broker.records in
    let is : message_at c.args.birth r ≡ Some c.in-Some.message = search rules in
    lawful_will c.args.birth c.in-Some.message r (wills c.args.birth c.in-Some.message r is) c.requires.lawful

pub returns-in-Some-clause-quiet : goal.returns-in-Some-clause-quiet
returns-in-Some-clause-quiet g c = λ none.
    let r = c.args.step.now.broker.records in
    let is : message_at c.args.birth r ≡ Some c.in-Some.message = search rules in
    absurd (has_will c.args.birth c.in-Some.message r (wills c.args.birth c.in-Some.message r is) none)

pub returns-in-Some-clause-quiet_left : goal.returns-in-Some-clause-quiet_left
returns-in-Some-clause-quiet_left g c = λ none.
    let r = c.args.step.now.broker.records in
    let is : message_at c.args.birth r ≡ Some c.in-Some.message = search rules in
    absurd (has_will c.args.birth c.in-Some.message r (wills c.args.birth c.in-Some.message r is) none)

pub returns-in-None-clause-ok : goal.returns-in-None-clause-ok
returns-in-None-clause-ok g c =
    let s = c.args.step.now in
    let is : message_at c.args.birth s.broker.records ≡ None = search rules in
    does_some (publishes_will c.args.birth) s s (no_will_did c.args.birth s (unwilled c.args.birth s.broker.records is))

pub returns-in-Some-clause-once : goal.returns-in-Some-clause-once
returns-in-Some-clause-once g c =
    on_ok c.publish_and_drop-published.result (λ gone. inl gone) c.publish_and_drop-published.ensures.gone

pub returns-in-None-clause-once : goal.returns-in-None-clause-once
returns-in-None-clause-once g c =
    let s = c.args.step.now in
    let is : message_at c.args.birth s.broker.records ≡ None = search rules in
    inr (no_will_did c.args.birth s (unwilled c.args.birth s.broker.records is))

use Rattle.std.proofs.Common.{◌≡◌, List, [], ◌∷◌, rules, sym, subst, ◌∙◌}
use Rattle.std.specs.Prelude.{⊤, Result, Err, IfErr, OnOk}
use Rattle.mqtt_routes.specs.routing.Subscriptions.{Subscriber}
use Rattle.mqtt_rules.specs.step.Closing.{close}
use Rattle.mqtt_rules.specs.step.Deeds.{Gone, always}
use Rattle.mqtt_broker_step.specs.declared.fault.StepFault.{StepFault}
use Rattle.mqtt_broker_step.proofs.Doing.{on_ok, if_err}
use Rattle.mqtt_broker_queue.specs.publications.Choosing.{LeavesSome}
use Rattle.mqtt_broker_acts.specs.closing.Wills.{ChoosesOnce}
use Rattle.mqtt_broker_acts.proofs.closing_lemmas.Closed.{Keeps}
use Rattle.mqtt_broker_acts.proofs.closing_lemmas.LineClosed.{gone_keeps, close_once, one_session, closed_with, closed_without, gone_refused, closed_left}
use Rattle.mqtt_broker_acts.proofs.closing.closing.close.Goals as goal

pub close_session-requires-clause-serves : goal.close_session-requires-clause-serves
close_session-requires-clause-serves g c =
    let k : Keeps c.in-Some.birth c.args.step.now.broker.records c.gone.new.self.broker.records =
    gone_keeps c.in-Some.birth c.args.line c.args.step.now c.gone.new.self c.in_ok-gone.ensures.ok in
    subst (λ (ss : List Subscriber). g.R.Router.serves c.args.router.now ss) (sym k.subs) c.requires.serves

pub close_session-requires-clause-lawful : goal.close_session-requires-clause-lawful
close_session-requires-clause-lawful g c =
    let k : Keeps c.in-Some.birth c.args.step.now.broker.records c.gone.new.self.broker.records =
    gone_keeps c.in-Some.birth c.args.line c.args.step.now c.gone.new.self c.in_ok-gone.ensures.ok in
    k.willed (c.requires.lawful c.in-Some.birth c.in-Some.is)

pub returns-in-Some-clause-ok : goal.returns-in-Some-clause-ok
returns-in-Some-clause-ok g c = λ l number on.
    on_ok c.close_session.result
    (closed_with c.args.keeps_will c.args.line c.in-Some.birth l c.args.step.now c.gone.new.self c.close_session.new.step number (on ∙ c.in-Some.is) c.in_ok-gone.ensures.ok)
    c.close_session.ensures.ok

pub returns-in-Some-clause-left : goal.returns-in-Some-clause-left
returns-in-Some-clause-left g c = λ l number on.
    if_err c.close_session.result
    (λ fault. closed_left c.args.keeps_will c.args.line c.in-Some.birth l fault c.args.step.now c.gone.new.self c.close_session.new.step number (on ∙ c.in-Some.is) c.in_ok-gone.ensures.ok)
    c.close_session.ensures.left

pub returns-in-None-clause-ok : goal.returns-in-None-clause-ok
returns-in-None-clause-ok g c = λ l number on.
    closed_without c.args.keeps_will c.args.line l c.args.step.now c.gone.new.self number (on ∙ c.in-None.is) c.in_ok-gone.ensures.ok

pub returns-in_err-gone-clause-left : goal.returns-in_err-gone-clause-left
returns-in_err-gone-clause-left g c = λ l number on.
    let fault = c.in_err-gone.field-0.0 in
    let left : LeavesSome (λ env. close env c.args.keeps_will l) fault c.args.step.now c.gone.new.self =
    gone_refused c.args.keeps_will c.args.line c.args.session l fault c.args.step.now c.gone.new.self number on c.in_err-gone.ensures.left in
    let is : c.from_residual.result ≡ Err fault = search rules in
    subst (λ (r : Result ⊤ StepFault). IfErr r (λ x. LeavesSome (λ env. close env c.args.keeps_will l) x c.args.step.now c.gone.new.self)) (sym is) left

pub returns-in-Some-clause-once : goal.returns-in-Some-clause-once
returns-in-Some-clause-once g c = λ birth l is number on.
    let same : c.in-Some.birth ≡ birth = one_session c.in-Some.birth birth c.args.session c.in-Some.is is in
    subst (λ n. OnOk c.close_session.result (ChoosesOnce n (λ env. close env c.args.keeps_will l) c.args.step.now c.close_session.new.step)) same
    (on_ok c.close_session.result
    (close_once c.args.keeps_will c.args.line c.in-Some.birth l c.args.step.now c.gone.new.self c.close_session.new.step number (on ∙ c.in-Some.is) c.in_ok-gone.ensures.ok)
    c.close_session.ensures.once)

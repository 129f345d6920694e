use Rattle.std.proofs.Common.{◌≡◌, List, [], ◌∷◌, rules, sym, subst}
use Rattle.std.specs.Prelude.{⊤, Result, Err, IfErr}
use Rattle.mqtt_routes.specs.routing.Subscriptions.{Subscriber}
use Rattle.mqtt_rules.specs.step.Closing.{drop_line}
use Rattle.mqtt_rules.specs.step.Deeds.{Send, always}
use Rattle.mqtt_rules.specs.step.Packets.{disconnect}
use Rattle.mqtt_broker_step.specs.declared.fault.StepFault.{StepFault}
use Rattle.mqtt_broker_step.proofs.Doing.{on_ok, if_err}
use Rattle.mqtt_broker_queue.specs.publications.Choosing.{LeavesSome}
use Rattle.mqtt_broker_acts.proofs.closing_lemmas.Closed.{Keeps}
use Rattle.mqtt_broker_acts.proofs.closing_lemmas.LineClosed.{sent_keeps, drop_once, line_dropped, told_refused, dropped_left}
use Rattle.mqtt_broker_acts.proofs.closing.closing.drop_line.Goals as goal

pub close-requires-clause-serves : goal.close-requires-clause-serves
close-requires-clause-serves g c =
    let k : Keeps 0 c.args.step.now.broker.records c.tell.new.step.broker.records = sent_keeps 0 c.args.line c.args.reason.0 c.args.step.now c.tell.new.step c.in_ok-tell.ensures.ok in
    subst (λ (ss : List Subscriber). g.R.Router.serves c.args.router.now ss) (sym k.subs) c.requires.serves

pub close-requires-clause-lawful : goal.close-requires-clause-lawful
close-requires-clause-lawful g c = λ birth is.
    let k : Keeps birth c.args.step.now.broker.records c.tell.new.step.broker.records = sent_keeps birth c.args.line c.args.reason.0 c.args.step.now c.tell.new.step c.in_ok-tell.ensures.ok in
    k.willed (c.requires.lawful birth is)

pub returns-clause-ok : goal.returns-clause-ok
returns-clause-ok g c = λ l number on.
    on_ok c.close.result
    (line_dropped c.args.line c.args.reason.0 l c.args.step.now c.tell.new.step c.close.new.step number c.in_ok-tell.ensures.ok)
    (c.close.ensures.ok l number on)

pub returns-clause-left : goal.returns-clause-left
returns-clause-left g c = λ l number on.
    if_err c.close.result
    (λ fault. dropped_left c.args.line c.args.reason.0 l fault c.args.step.now c.tell.new.step c.close.new.step number c.in_ok-tell.ensures.ok)
    (c.close.ensures.left l number on)

pub returns-in_err-tell-clause-left : goal.returns-in_err-tell-clause-left
returns-in_err-tell-clause-left g c = λ l number on.
    let fault = c.in_err-tell.field-0.0 in
    let left : LeavesSome (λ env. drop_line env c.args.reason.0 l) fault c.args.step.now c.tell.new.step =
    told_refused c.args.line c.args.reason.0 l fault c.args.step.now c.tell.new.step number c.in_err-tell.ensures.left in
    let is : c.from_residual.result ≡ Err fault = search rules in
    subst (λ (r : Result ⊤ StepFault). IfErr r (λ x. LeavesSome (λ env. drop_line env c.args.reason.0 l) x c.args.step.now c.tell.new.step)) (sym is) left

pub returns-clause-once : goal.returns-clause-once
returns-clause-once g c = λ birth l is number on.
    on_ok c.close.result
    (drop_once c.args.line c.args.reason.0 birth l c.args.step.now c.tell.new.step c.close.new.step number c.in_ok-tell.ensures.ok)
    (c.close.ensures.once birth l is number on)

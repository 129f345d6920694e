use Rattle.std.proofs.Common.{◌≡◌, List, rules, sym, subst}
use Rattle.std.specs.Prelude.{⊤, Result, Err, IfErr}
use Rattle.mqtt_routes.specs.routing.Subscriptions.{Subscriber}
use Rattle.mqtt_broker_step.specs.declared.fault.StepFault.{StepFault}
use Rattle.mqtt_broker_step.proofs.Doing.{on_ok, if_err}
use Rattle.mqtt_broker_queue.specs.publications.Choosing.{LeavesSome}
use Rattle.mqtt_broker_acts.specs.closing.Settling.{leaves_by, sets_expiry}
use Rattle.mqtt_broker_acts.proofs.closing_lemmas.Closed.{Keeps}
use Rattle.mqtt_broker_acts.proofs.closing_lemmas.LineClosed.{expiry_kept, left_by, own_lawful, set_refused, leaving_left}
use Rattle.mqtt_broker_acts.proofs.closing.leaving.leave.Goals as goal

pub close-requires-clause-serves : goal.close-requires-clause-serves
close-requires-clause-serves g c =
    let k : Keeps c.args.birth c.args.step.now.broker.records c.set_expiry.new.step.broker.records =
    expiry_kept c.args.expiry c.args.birth c.args.step.now c.set_expiry.new.step c.in_ok-set_expiry.ensures.ok in
    subst (λ (ss : List Subscriber). g.R.Router.serves c.args.router.now ss) (sym k.subs) c.requires.serves

pub close-requires-clause-lawful : goal.close-requires-clause-lawful
close-requires-clause-lawful g c =
    let k : Keeps c.args.birth c.args.step.now.broker.records c.set_expiry.new.step.broker.records =
    expiry_kept c.args.expiry c.args.birth c.args.step.now c.set_expiry.new.step c.in_ok-set_expiry.ensures.ok in
    own_lawful c.args.birth c.set_expiry.new.step.broker.records (k.willed c.requires.lawful)

pub returns-clause-ok : goal.returns-clause-ok
returns-clause-ok g c = λ l number on.
    on_ok c.close.result
    (left_by c.args.birth c.args.reason.0 c.args.expiry c.keeps_will.result l c.args.step.now c.set_expiry.new.step c.close.new.step c.keeps_will.ensures c.in_ok-set_expiry.ensures.ok)
    (c.close.ensures.ok l number on)

pub returns-clause-left : goal.returns-clause-left
returns-clause-left g c = λ l number on.
    if_err c.close.result
    (λ fault. leaving_left c.args.birth c.args.reason.0 c.args.expiry c.keeps_will.result l fault c.args.step.now c.set_expiry.new.step c.close.new.step c.keeps_will.ensures c.in_ok-set_expiry.ensures.ok)
    (c.close.ensures.left l number on)

pub returns-in_err-set_expiry-clause-left : goal.returns-in_err-set_expiry-clause-left
returns-in_err-set_expiry-clause-left g c = λ l number on.
    let fault = c.in_err-set_expiry.field-0.0 in
    let left : LeavesSome (leaves_by c.args.birth c.args.expiry c.args.reason.0 l) fault c.args.step.now c.set_expiry.new.step =
    set_refused c.args.birth c.args.reason.0 c.args.expiry l fault c.args.step.now c.set_expiry.new.step c.in_err-set_expiry.ensures.left in
    let is : c.from_residual.result ≡ Err fault = search rules in
    subst (λ (r : Result ⊤ StepFault). IfErr r (λ x. LeavesSome (leaves_by c.args.birth c.args.expiry c.args.reason.0 l) x c.args.step.now c.set_expiry.new.step)) (sym is) left

use Rattle.std.proofs.Common.{◌≡◌, List, rules, sym, subst}
use Rattle.std.specs.Prelude.{⊤, Result, Err, IfErr}
use Rattle.mqtt_routes.specs.routing.Subscriptions.{Subscriber}
use Rattle.mqtt_rules.specs.step.Deeds.{Close}
use Rattle.mqtt_broker_step.specs.declared.fault.StepFault.{StepFault}
use Rattle.mqtt_broker_step.specs.Stepping.{Leaves, to_session}
use Rattle.mqtt_broker_step.proofs.Doing.{on_ok, if_err}
use Rattle.mqtt_broker_queue.specs.publications.Choosing.{LeavesSome}
use Rattle.mqtt_broker_queue.proofs.publications_lemmas.Some.{leaves_some}
use Rattle.mqtt_broker_acts.specs.closing.Settling.{closes, drops_will}
use Rattle.mqtt_broker_acts.proofs.closing_lemmas.Closed.{Keeps, keeps_then, drops_keeps, close_keeps, closed_is, closed_once, closed_quiet, drop_refused, close_refused, settle_refused, settle_quiet_refused}
use Rattle.mqtt_broker_acts.proofs.closing.closing.close_session.Goals as goal

pub settle-requires-clause-serves : goal.settle-requires-clause-serves
settle-requires-clause-serves g c =
    let s = c.args.step.now in
    let k : Keeps c.args.birth s.broker.records c.close.new.self.broker.records =
    keeps_then c.args.birth s.broker.records c.drop_will.new.step.broker.records c.close.new.self.broker.records
    (drops_keeps c.args.keeps_will c.args.birth s c.drop_will.new.step c.in_ok-drop_will.ensures.ok)
    (close_keeps c.args.birth c.moment-moment.result c.drop_will.new.step c.close.new.self c.in_ok-close.ensures.ok) in
    subst (λ (ss : List Subscriber). g.R.Router.serves c.args.router.now ss) (sym k.subs) c.requires.serves

pub settle-requires-clause-lawful : goal.settle-requires-clause-lawful
settle-requires-clause-lawful g c =
    let s = c.args.step.now in
    let k : Keeps c.args.birth s.broker.records c.close.new.self.broker.records =
    keeps_then c.args.birth s.broker.records c.drop_will.new.step.broker.records c.close.new.self.broker.records
    (drops_keeps c.args.keeps_will c.args.birth s c.drop_will.new.step c.in_ok-drop_will.ensures.ok)
    (close_keeps c.args.birth c.moment-moment.result c.drop_will.new.step c.close.new.self c.in_ok-close.ensures.ok) in
    k.willed c.requires.lawful

pub returns-clause-ok : goal.returns-clause-ok
returns-clause-ok g c =
    on_ok c.settle.result
    (closed_is c.args.keeps_will c.args.birth c.moment-moment.result c.args.step.now c.drop_will.new.step c.close.new.self c.settle.new.step
    c.moment-moment.ensures c.in_ok-drop_will.ensures.ok c.in_ok-close.ensures.ok)
    c.settle.ensures.ok

pub returns-clause-left : goal.returns-clause-left
returns-clause-left g c =
    if_err c.settle.result
    (λ fault. settle_refused c.args.keeps_will c.args.birth c.moment-moment.result fault c.args.step.now c.drop_will.new.step c.close.new.self c.settle.new.step
    c.moment-moment.ensures c.in_ok-drop_will.ensures.ok c.in_ok-close.ensures.ok)
    c.settle.ensures.left

pub returns-clause-quiet : goal.returns-clause-quiet
returns-clause-quiet g c = λ none.
    let s = c.args.step.now in
    let k : Keeps c.args.birth s.broker.records c.close.new.self.broker.records =
    keeps_then c.args.birth s.broker.records c.drop_will.new.step.broker.records c.close.new.self.broker.records
    (drops_keeps c.args.keeps_will c.args.birth s c.drop_will.new.step c.in_ok-drop_will.ensures.ok)
    (close_keeps c.args.birth c.moment-moment.result c.drop_will.new.step c.close.new.self c.in_ok-close.ensures.ok) in
    on_ok c.settle.result
    (closed_quiet c.args.keeps_will c.args.birth c.moment-moment.result s c.drop_will.new.step c.close.new.self c.settle.new.step
    c.moment-moment.ensures c.in_ok-drop_will.ensures.ok c.in_ok-close.ensures.ok)
    (c.settle.ensures.quiet (k.none none))

pub returns-clause-quiet_left : goal.returns-clause-quiet_left
returns-clause-quiet_left g c = λ none.
    let s = c.args.step.now in
    let k : Keeps c.args.birth s.broker.records c.close.new.self.broker.records =
    keeps_then c.args.birth s.broker.records c.drop_will.new.step.broker.records c.close.new.self.broker.records
    (drops_keeps c.args.keeps_will c.args.birth s c.drop_will.new.step c.in_ok-drop_will.ensures.ok)
    (close_keeps c.args.birth c.moment-moment.result c.drop_will.new.step c.close.new.self c.in_ok-close.ensures.ok) in
    if_err c.settle.result
    (λ fault. settle_quiet_refused c.args.keeps_will c.args.birth c.moment-moment.result fault s c.drop_will.new.step c.close.new.self c.settle.new.step
    c.moment-moment.ensures c.in_ok-drop_will.ensures.ok c.in_ok-close.ensures.ok)
    (c.settle.ensures.quiet_left (k.none none))

pub returns-in_err-drop_will-clause-left : goal.returns-in_err-drop_will-clause-left
returns-in_err-drop_will-clause-left g c =
    let fault = c.in_err-drop_will.field-0.0 in
    let left : LeavesSome (closes c.args.keeps_will c.args.birth) fault c.args.step.now c.drop_will.new.step =
    leaves_some (closes c.args.keeps_will c.args.birth) fault c.args.step.now c.drop_will.new.step
    (drop_refused c.args.keeps_will c.args.birth c.moment-moment.result fault c.args.step.now c.drop_will.new.step c.moment-moment.ensures c.in_err-drop_will.ensures.left) in
    let is : c.from_residual.result ≡ Err fault = search rules in
    subst (λ (r : Result ⊤ StepFault). IfErr r (λ x. LeavesSome (closes c.args.keeps_will c.args.birth) x c.args.step.now c.drop_will.new.step)) (sym is) left

pub returns-in_err-drop_will-clause-quiet_left : goal.returns-in_err-drop_will-clause-quiet_left
returns-in_err-drop_will-clause-quiet_left g c = λ none.
    let fault = c.in_err-drop_will.field-0.0 in
    let left : Leaves (closes c.args.keeps_will c.args.birth) fault c.args.step.now c.drop_will.new.step =
    drop_refused c.args.keeps_will c.args.birth c.moment-moment.result fault c.args.step.now c.drop_will.new.step c.moment-moment.ensures c.in_err-drop_will.ensures.left in
    let is : c.from_residual.result ≡ Err fault = search rules in
    subst (λ (r : Result ⊤ StepFault). IfErr r (λ x. Leaves (closes c.args.keeps_will c.args.birth) x c.args.step.now c.drop_will.new.step)) (sym is) left

pub returns-in_err-close-clause-left : goal.returns-in_err-close-clause-left
returns-in_err-close-clause-left g c =
    let fault = c.in_err-close.field-0.0 in
    let left : LeavesSome (closes c.args.keeps_will c.args.birth) fault c.args.step.now c.close.new.self =
    leaves_some (closes c.args.keeps_will c.args.birth) fault c.args.step.now c.close.new.self
    (close_refused c.args.keeps_will c.args.birth c.moment-moment.result fault c.args.step.now c.drop_will.new.step c.close.new.self c.moment-moment.ensures c.in_ok-drop_will.ensures.ok c.in_err-close.ensures.left) in
    let is : c.from_residual-in_err-close.result ≡ Err fault = search rules in
    subst (λ (r : Result ⊤ StepFault). IfErr r (λ x. LeavesSome (closes c.args.keeps_will c.args.birth) x c.args.step.now c.close.new.self)) (sym is) left

pub returns-in_err-close-clause-quiet_left : goal.returns-in_err-close-clause-quiet_left
returns-in_err-close-clause-quiet_left g c = λ none.
    let fault = c.in_err-close.field-0.0 in
    let left : Leaves (closes c.args.keeps_will c.args.birth) fault c.args.step.now c.close.new.self =
    close_refused c.args.keeps_will c.args.birth c.moment-moment.result fault c.args.step.now c.drop_will.new.step c.close.new.self c.moment-moment.ensures c.in_ok-drop_will.ensures.ok c.in_err-close.ensures.left in
    let is : c.from_residual-in_err-close.result ≡ Err fault = search rules in
    subst (λ (r : Result ⊤ StepFault). IfErr r (λ x. Leaves (closes c.args.keeps_will c.args.birth) x c.args.step.now c.close.new.self)) (sym is) left

pub returns-clause-once : goal.returns-clause-once
returns-clause-once g c =
    on_ok c.settle.result
    (closed_once c.args.keeps_will c.args.birth c.moment-moment.result c.args.step.now c.drop_will.new.step c.close.new.self c.settle.new.step
    c.moment-moment.ensures c.in_ok-drop_will.ensures.ok c.in_ok-close.ensures.ok)
    c.settle.ensures.once

use Rattle.std.proofs.Common.{◌≡◌, rules, sym, subst}
use Rattle.std.specs.Prelude.{Result, Err, IfErr}
use Rattle.mqtt_rules.specs.step.Connect.{on_connect}
use Rattle.mqtt_broker_step.specs.declared.fault.StepFault.{StepFault}
use Rattle.mqtt_broker_queue.specs.publications.Choosing.{LeavesSome}
use Rattle.mqtt_broker_acts.specs.declared.connecting.joining.Joined.{Joined}
use Rattle.mqtt_broker_acts.proofs.connecting_lemmas.Standings.{connected, given_after, join_refused, prepare_refused}
use Rattle.mqtt_broker_acts.proofs.connecting.standing.connect_within.Goals as goal

pub join-requires : goal.join-requires
join-requires g c = given_after c.args.connect.now c.args.step.now c.prepare.new.step c.in_ok-prepare.ensures.ok c.requires.given

pub returns-clause-ok : goal.returns-clause-ok
returns-clause-ok g c = λ l number.
    let s = c.args.step.now in
    connected c.join.result l c.args.connect.now s c.prepare.new.step c.join.new.step c.requires.unrefused c.in_ok-prepare.ensures.ok
    (λ choice p. c.join.ensures.whole l s choice number p)

pub returns-clause-left : goal.returns-clause-left
returns-clause-left g c = λ l number.
    let s = c.args.step.now in
    join_refused c.join.result l c.args.connect.now s c.prepare.new.step c.join.new.step c.requires.unrefused c.in_ok-prepare.ensures.ok
    (λ choice p. c.join.ensures.whole_left l s choice number p)

pub returns-in_err-prepare-clause-left : goal.returns-in_err-prepare-clause-left
returns-in_err-prepare-clause-left g c = λ l number.
    let fault = c.in_err-prepare.field-0.0 in
    let left : LeavesSome (λ env. on_connect env l c.args.connect.now) fault c.args.step.now c.prepare.new.step =
    prepare_refused l c.args.connect.now c.args.birth fault c.args.step.now c.prepare.new.step c.requires.unrefused c.requires.named c.requires.within c.in_err-prepare.ensures.left in
    let is : c.from_residual.result ≡ Err fault = search rules in
    subst (λ (r : Result Joined StepFault). IfErr r (λ x. LeavesSome (λ env. on_connect env l c.args.connect.now) x c.args.step.now c.prepare.new.step)) (sym is) left

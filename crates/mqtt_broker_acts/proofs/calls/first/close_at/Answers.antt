use Rattle.std.proofs.Common.{ap, subst, ◌∙◌}
use Rattle.std.specs.Prelude.{IfErr, OnOk}
use Rattle.mqtt_rules.specs.step.Lines.{session_on}
use Rattle.mqtt_rules.specs.step.Routing.{subscribers}
use Rattle.mqtt_rules.specs.step.Step.{Input, deeds_of}
use Rattle.mqtt_broker_step.specs.Stepping.{Stepping}
use Rattle.mqtt_broker_queue.specs.publications.Choosing.{DoesSome, LeavesSome}
use Rattle.mqtt_broker_acts.proofs.calls_lemmas.Begun.{at_begun, begun_is, unbegun_some}
use Rattle.mqtt_broker_acts.proofs.calls.first.close_at.Goals as goal

pub close_heard-requires-clause-on : goal.close_heard-requires-clause-on
close_heard-requires-clause-on g c =
    let s = c.args.step.now in
    let s1 = c.begin.new.self in
    let same = begun_is c.args.moment s s1 c.requires.rest c.in-Ok.ensures.ok in
    ap (λ (t : Stepping). session_on c.args.line t.broker) same ∙ c.requires.on

pub close_heard-requires-clause-serves : goal.close_heard-requires-clause-serves
close_heard-requires-clause-serves g c =
    let s = c.args.step.now in
    let s1 = c.begin.new.self in
    let same = begun_is c.args.moment s s1 c.requires.rest c.in-Ok.ensures.ok in
    at_begun (λ r. g.R.Router.serves c.args.router.now (subscribers r)) s.limits c.args.moment s.broker s1 same c.requires.serves

pub returns-in-Ok-clause-ok : goal.returns-in-Ok-clause-ok
returns-in-Ok-clause-ok g c = λ packet other.
    let s = c.args.step.now in
    let s1 = c.begin.new.self in
    let same = begun_is c.args.moment s s1 c.requires.rest c.in-Ok.ensures.ok in
    subst (λ (t : Stepping). OnOk c.close_heard.result (DoesSome (λ env. deeds_of env (Input c.args.line packet)) t c.close_heard.new.step)) same (c.close_heard.ensures.ok packet other)

pub returns-in-Ok-clause-left : goal.returns-in-Ok-clause-left
returns-in-Ok-clause-left g c = λ packet other.
    let s = c.args.step.now in
    let s1 = c.begin.new.self in
    let same = begun_is c.args.moment s s1 c.requires.rest c.in-Ok.ensures.ok in
    subst (λ (t : Stepping). IfErr c.close_heard.result (λ fault. LeavesSome (λ env. deeds_of env (Input c.args.line packet)) fault t c.close_heard.new.step)) same (c.close_heard.ensures.left packet other)

pub returns-in-Err-clause-left : goal.returns-in-Err-clause-left
returns-in-Err-clause-left g c = λ packet other.
    unbegun_some (λ env. deeds_of env (Input c.args.line packet)) c.args.moment c.in-Err.fault c.args.step.now c.begin.new.self c.requires.rest c.in-Err.ensures.err c.in-Err.ensures.fault

use Rattle.std.proofs.Common.{ap, subst, ◌∙◌}
use Rattle.std.specs.Prelude.{IfErr, IfOk}
use Rattle.mqtt_packet.specs.declared.codec.packet.Packet.TheVariants as packets
use Rattle.mqtt_rules.specs.step.Contents.{IsWilled}
use Rattle.mqtt_rules.specs.step.Laws.{IsCoherent}
use Rattle.mqtt_rules.specs.step.Lines.{session_on}
use Rattle.mqtt_rules.specs.step.Routing.{subscribers}
use Rattle.mqtt_rules.specs.step.Step.{Input, deeds_of}
use Rattle.mqtt_broker_step.specs.Stepping.{Stepping}
use Rattle.mqtt_broker_queue.specs.publications.Choosing.{LeavesSome}
use Rattle.mqtt_broker_acts.specs.closing.Wills.{will_at}
use Rattle.mqtt_broker_acts.proofs.calls_lemmas.Sources.{willed}
use Rattle.mqtt_broker_acts.specs.calls.First.{GreetedBy}
use Rattle.mqtt_broker_acts.proofs.calls_lemmas.Begun.{at_begun, begun_is, unbegun_some}
use Rattle.mqtt_broker_acts.proofs.calls.connecting.greet_at.Goals as goal

pub greet-requires-clause-on : goal.greet-requires-clause-on
greet-requires-clause-on g c =
    let s = c.args.step.now in
    let s1 = c.begin.new.self in
    let same = begun_is c.args.moment s s1 c.requires.rest c.in-Ok.ensures.ok in
    ap (λ (t : Stepping). session_on c.args.line t.broker) same ∙ c.requires.on

pub greet-requires-clause-coherent : goal.greet-requires-clause-coherent
greet-requires-clause-coherent g c =
    let s = c.args.step.now in
    let s1 = c.begin.new.self in
    let same = begun_is c.args.moment s s1 c.requires.rest c.in-Ok.ensures.ok in
    at_begun IsCoherent s.limits c.args.moment s.broker s1 same c.requires.ready.coherent

pub greet-requires-clause-serves : goal.greet-requires-clause-serves
greet-requires-clause-serves g c =
    let s = c.args.step.now in
    let s1 = c.begin.new.self in
    let same = begun_is c.args.moment s s1 c.requires.rest c.in-Ok.ensures.ok in
    at_begun (λ r. g.R.Router.serves c.args.router.now (subscribers r)) s.limits c.args.moment s.broker s1 same c.requires.serves

pub greet-requires-clause-lawful : goal.greet-requires-clause-lawful
greet-requires-clause-lawful g c = λ birth.
    let s = c.args.step.now in
    let s1 = c.begin.new.self in
    let same = begun_is c.args.moment s s1 c.requires.rest c.in-Ok.ensures.ok in
    at_begun (λ r. IsWilled (will_at birth r)) s.limits c.args.moment s.broker s1 same (willed s.broker.records c.requires.ready.sources.stored birth)

pub returns-in-Ok-clause-ok : goal.returns-in-Ok-clause-ok
returns-in-Ok-clause-ok g c =
    let s = c.args.step.now in
    let s1 = c.begin.new.self in
    let same = begun_is c.args.moment s s1 c.requires.rest c.in-Ok.ensures.ok in
    subst (λ (t : Stepping). IfOk c.greet.result (λ joined. GreetedBy c.args.line c.args.connect.now joined t c.greet.new.step)) same c.greet.ensures.ok

pub returns-in-Ok-clause-left : goal.returns-in-Ok-clause-left
returns-in-Ok-clause-left g c =
    let s = c.args.step.now in
    let s1 = c.begin.new.self in
    let same = begun_is c.args.moment s s1 c.requires.rest c.in-Ok.ensures.ok in
    subst (λ (t : Stepping). IfErr c.greet.result (λ fault. LeavesSome (λ env. deeds_of env (Input c.args.line (packets.Connect c.args.connect.now))) fault t c.greet.new.step)) same c.greet.ensures.left

pub returns-in-Err-clause-left : goal.returns-in-Err-clause-left
returns-in-Err-clause-left g c =
    unbegun_some (λ env. deeds_of env (Input c.args.line (packets.Connect c.args.connect.now))) c.args.moment c.in-Err.fault c.args.step.now c.begin.new.self c.requires.rest c.in-Err.ensures.err c.in-Err.ensures.fault

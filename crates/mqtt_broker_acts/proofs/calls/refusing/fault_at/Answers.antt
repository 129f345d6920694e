use Rattle.std.proofs.Common.{false, ap, refl, ◌∙◌}
use Rattle.mqtt_rules.specs.step.Contents.{IsWilled}
use Rattle.mqtt_rules.specs.step.Lines.{session_on}
use Rattle.mqtt_rules.specs.step.Routing.{subscribers}
use Rattle.mqtt_rules.specs.step.Step.{BadInput, deeds_of}
use Rattle.mqtt_broker_step.specs.Stepping.{Stepping}
use Rattle.mqtt_broker_acts.specs.closing.Wills.{will_at}
use Rattle.mqtt_broker_acts.proofs.calls_lemmas.SomeCalls.{called_some, limits_some, start_some}
use Rattle.mqtt_broker_acts.proofs.calls_lemmas.Sources.{willed}
use Rattle.mqtt_broker_acts.proofs.calls_lemmas.Begun.{at_begun, begun_is}
use Rattle.mqtt_broker_acts.proofs.calls.refusing.fault_at.Goals as goal

pub refuse_packet-requires-clause-serves : goal.refuse_packet-requires-clause-serves
refuse_packet-requires-clause-serves g c =
    let s = c.args.step.now in
    let s1 = c.begin.new.self in
    let same = begun_is c.args.moment s s1 c.requires.rest c.in-Ok.ensures.ok in
    at_begun (λ r. g.R.Router.serves c.args.router.now (subscribers r)) s.limits c.args.moment s.broker s1 same c.requires.serves

pub refuse_packet-requires-clause-lawful : goal.refuse_packet-requires-clause-lawful
refuse_packet-requires-clause-lawful g c = λ birth.
    let s = c.args.step.now in
    let s1 = c.begin.new.self in
    let same = begun_is c.args.moment s s1 c.requires.rest c.in-Ok.ensures.ok in
    at_begun (λ r. IsWilled (will_at birth r)) s.limits c.args.moment s.broker s1 same (willed s.broker.records c.requires.ready.sources.stored birth)

pub returns-in-Ok-clause-called : goal.returns-in-Ok-clause-called
returns-in-Ok-clause-called g c =
    let s = c.args.step.now in
    let s1 = c.begin.new.self in
    let same = begun_is c.args.moment s s1 c.requires.rest c.in-Ok.ensures.ok in
    called_some s.limits c.args.moment (BadInput c.args.line c.args.is_connect c.args.code.0) false s.broker s1 c.refuse_packet.new.step c.refuse_packet.result same (λ choice. refl) c.refuse_packet.ensures.ok c.refuse_packet.ensures.left

pub returns-in-Ok-clause-start : goal.returns-in-Ok-clause-start
returns-in-Ok-clause-start g c =
    let s = c.args.step.now in
    let s1 = c.begin.new.self in
    let same = begun_is c.args.moment s s1 c.requires.rest c.in-Ok.ensures.ok in
    start_some s.limits c.args.moment (λ env. deeds_of env (BadInput c.args.line c.args.is_connect c.args.code.0)) s.broker s1 c.refuse_packet.new.step c.refuse_packet.result same c.refuse_packet.ensures.ok c.refuse_packet.ensures.left

pub returns-in-Ok-clause-limits : goal.returns-in-Ok-clause-limits
returns-in-Ok-clause-limits g c =
    let s = c.args.step.now in
    let s1 = c.begin.new.self in
    let same = begun_is c.args.moment s s1 c.requires.rest c.in-Ok.ensures.ok in
    limits_some s.limits c.args.moment (λ env. deeds_of env (BadInput c.args.line c.args.is_connect c.args.code.0)) s.broker s1 c.refuse_packet.new.step c.refuse_packet.result same c.refuse_packet.ensures.ok c.refuse_packet.ensures.left

pub refuse_packet-requires-clause-on : goal.refuse_packet-requires-clause-on
refuse_packet-requires-clause-on g c =
    let s = c.args.step.now in
    let s1 = c.begin.new.self in
    let same = begun_is c.args.moment s s1 c.requires.rest c.in-Ok.ensures.ok in
    ap (λ (t : Stepping). session_on c.args.line t.broker) same ∙ c.requires.on

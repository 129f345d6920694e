use Rattle.std.proofs.Common.{false, refl, rules, subst, sym}
use Rattle.mqtt_packet.specs.declared.codec.packet.Packet.{Packet}
use Rattle.mqtt_packet.specs.declared.codec.packet.Packet.TheVariants as packets
use Rattle.mqtt_rules.specs.step.Step.{Input, deeds_of}
use Rattle.mqtt_broker_acts.specs.calls.Doing.{IsCalled, begun}
use Rattle.mqtt_broker_acts.proofs.calls_lemmas.SomeCalls.{called_some, limits_some, start_some}
use Rattle.mqtt_broker_acts.specs.calls.First.{IsOther}
use Rattle.mqtt_broker_acts.proofs.calls.first.first_at.Goals as goal

pub returns-in-Connect-clause-called : goal.returns-in-Connect-clause-called
returns-in-Connect-clause-called g c =
    let s = c.args.step.now in
    subst (λ (p : Packet). IsCalled c.args.moment (Input c.args.line p) false c.connect_at.result c.connect_at.new.step) (sym c.in-Connect.is)
    (called_some s.limits c.args.moment (Input c.args.line (packets.Connect c.in-Connect.connect)) false s.broker (begun s.limits c.args.moment s.broker) c.connect_at.new.step c.connect_at.result refl (λ choice. refl)
    c.connect_at.ensures.ok c.connect_at.ensures.left)

pub returns-in-Connect-clause-start : goal.returns-in-Connect-clause-start
returns-in-Connect-clause-start g c =
    let s = c.args.step.now in
    start_some s.limits c.args.moment (λ env. deeds_of env (Input c.args.line (packets.Connect c.in-Connect.connect))) s.broker (begun s.limits c.args.moment s.broker) c.connect_at.new.step c.connect_at.result refl
    c.connect_at.ensures.ok c.connect_at.ensures.left

pub returns-in-Connect-clause-limits : goal.returns-in-Connect-clause-limits
returns-in-Connect-clause-limits g c =
    let s = c.args.step.now in
    limits_some s.limits c.args.moment (λ env. deeds_of env (Input c.args.line (packets.Connect c.in-Connect.connect))) s.broker (begun s.limits c.args.moment s.broker) c.connect_at.new.step c.connect_at.result refl
    c.connect_at.ensures.ok c.connect_at.ensures.left

pub returns-in_default-clause-called : goal.returns-in_default-clause-called
returns-in_default-clause-called g c =
    let s = c.args.step.now in
    let packet = c.args.packet.now in
    let other : IsOther packet = search rules in
    called_some s.limits c.args.moment (Input c.args.line packet) false s.broker (begun s.limits c.args.moment s.broker) c.close_at.new.step c.close_at.result refl (λ choice. refl)
    (c.close_at.ensures.ok packet other) (c.close_at.ensures.left packet other)

pub returns-in_default-clause-start : goal.returns-in_default-clause-start
returns-in_default-clause-start g c =
    let s = c.args.step.now in
    let packet = c.args.packet.now in
    let other : IsOther packet = search rules in
    start_some s.limits c.args.moment (λ env. deeds_of env (Input c.args.line packet)) s.broker (begun s.limits c.args.moment s.broker) c.close_at.new.step c.close_at.result refl
    (c.close_at.ensures.ok packet other) (c.close_at.ensures.left packet other)

pub returns-in_default-clause-limits : goal.returns-in_default-clause-limits
returns-in_default-clause-limits g c =
    let s = c.args.step.now in
    let packet = c.args.packet.now in
    let other : IsOther packet = search rules in
    limits_some s.limits c.args.moment (λ env. deeds_of env (Input c.args.line packet)) s.broker (begun s.limits c.args.moment s.broker) c.close_at.new.step c.close_at.result refl
    (c.close_at.ensures.ok packet other) (c.close_at.ensures.left packet other)

pub returns-in_default-clause-serves : goal.returns-in_default-clause-serves
returns-in_default-clause-serves g c = c.close_at.ensures.serves

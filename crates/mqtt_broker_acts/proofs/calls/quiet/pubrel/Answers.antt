use Rattle.std.proofs.Common.{refl}
use Rattle.mqtt_broker_step.proofs.Doing.{if_err, on_ok}
use Rattle.mqtt_broker_acts.proofs.calls_lemmas.OnLine.{on_line}
use Rattle.mqtt_packet.specs.declared.codec.packet.Packet.TheVariants.{Pubrel}
use Rattle.mqtt_rules.specs.step.Deeds.{always, of_session}
use Rattle.mqtt_rules.specs.step.Inbound.{on_pubrel}
use Rattle.mqtt_broker_acts.proofs.calls_lemmas.Answered.{did_packet, left_packet}
use Rattle.mqtt_broker_acts.proofs.calls.quiet.pubrel.Goals as goal

pub returns-clause-ok : goal.returns-clause-ok
returns-clause-ok c =
    let s = c.args.step.now in
    let h = on_line c.args.line c.args.birth s.broker c.requires.client in
    on_ok c.pubrel.result
    (λ did. did_packet c.args.line c.args.birth s h (Pubrel c.args.packet.now) (λ env l. of_session c.args.birth (λ x. always (on_pubrel l x c.args.packet.now.identifier))) c.pubrel.new.step (λ env. refl) (λ env. did))
    (c.pubrel.ensures.ok h.l h.number)

pub returns-clause-left : goal.returns-clause-left
returns-clause-left c =
    let s = c.args.step.now in
    let h = on_line c.args.line c.args.birth s.broker c.requires.client in
    if_err c.pubrel.result
    (λ fault left. left_packet c.args.line c.args.birth s h (Pubrel c.args.packet.now) (λ env l. of_session c.args.birth (λ x. always (on_pubrel l x c.args.packet.now.identifier))) fault c.pubrel.new.step (λ env. refl) (λ env. left))
    (c.pubrel.ensures.left h.l h.number)

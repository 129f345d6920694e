use Rattle.std.proofs.Common.{refl, sym, subst}
use Rattle.mqtt_broker_step.specs.Stepping.{Did, IsLeft}
use Rattle.mqtt_broker_step.proofs.Doing.{if_err, on_ok}
use Rattle.mqtt_broker_acts.proofs.calls_lemmas.OnLine.{on_line}
use Rattle.mqtt_packet.specs.declared.codec.packet.Packet.TheVariants.{Unsubscribe}
use Rattle.mqtt_rules.specs.step.Deeds.{of_session}
use Rattle.mqtt_rules.specs.step.Subscribe.{on_unsubscribe}
use Rattle.mqtt_broker_acts.proofs.calls_lemmas.Clients.{few_filters}
use Rattle.mqtt_broker_acts.proofs.calls_lemmas.Answered.{did_packet, left_packet}
use Rattle.mqtt_broker_acts.proofs.calls.quiet.unsubscribe.Goals as goal

pub unsubscribe-requires-clause-few : goal.unsubscribe-requires-clause-few
unsubscribe-requires-clause-few c =
    few_filters c.args.packet.now c.requires.taken

pub returns-clause-ok : goal.returns-clause-ok
returns-clause-ok c =
    let s = c.args.step.now in
    let h = on_line c.args.line c.args.birth s.broker c.requires.client in
    on_ok c.unsubscribe.result
    (λ did. did_packet c.args.line c.args.birth s h (Unsubscribe c.args.packet.now) (λ env l. of_session c.args.birth (λ x. on_unsubscribe l.number x c.args.packet.now)) c.unsubscribe.new.step (λ env. refl)
    (λ env. subst (λ n. Did (of_session c.args.birth (λ x. on_unsubscribe n x c.args.packet.now)) s c.unsubscribe.new.step) (sym h.number) did))
    c.unsubscribe.ensures.ok

pub returns-clause-left : goal.returns-clause-left
returns-clause-left c =
    let s = c.args.step.now in
    let h = on_line c.args.line c.args.birth s.broker c.requires.client in
    if_err c.unsubscribe.result
    (λ fault left. left_packet c.args.line c.args.birth s h (Unsubscribe c.args.packet.now) (λ env l. of_session c.args.birth (λ x. on_unsubscribe l.number x c.args.packet.now)) fault c.unsubscribe.new.step (λ env. refl)
    (λ env. subst (λ n. IsLeft (of_session c.args.birth (λ x. on_unsubscribe n x c.args.packet.now)) fault s c.unsubscribe.new.step) (sym h.number) left))
    c.unsubscribe.ensures.left

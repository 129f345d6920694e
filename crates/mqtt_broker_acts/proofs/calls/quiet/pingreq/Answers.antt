use Rattle.mqtt_broker_step.proofs.Doing.{if_err, on_ok}
use Rattle.mqtt_broker_acts.proofs.calls_lemmas.OnLine.{left_next, on_line, some_next}
use Rattle.mqtt_packet.specs.declared.codec.packet.Packet.TheVariants.{Pingreq}
use Rattle.mqtt_rules.specs.step.Step.{next_packet}
use Rattle.mqtt_broker_queue.proofs.publications_lemmas.Some.{does_some, leaves_some}
use Rattle.mqtt_broker_acts.proofs.calls.quiet.pingreq.Goals as goal

pub returns-clause-ok : goal.returns-clause-ok
returns-clause-ok c =
    let s = c.args.step.now in
    let h = on_line c.args.line c.args.birth s.broker c.requires.client in
    on_ok c.pingreq.result
    (λ does. some_next c.args.line c.args.birth Pingreq s c.pingreq.new.step h (does_some (λ env. next_packet env h.l Pingreq h.x) s c.pingreq.new.step does))
    (c.pingreq.ensures.ok h.l h.x h.number)

pub returns-clause-left : goal.returns-clause-left
returns-clause-left c =
    let s = c.args.step.now in
    let h = on_line c.args.line c.args.birth s.broker c.requires.client in
    if_err c.pingreq.result
    (λ fault left. left_next c.args.line c.args.birth Pingreq fault s c.pingreq.new.step h (leaves_some (λ env. next_packet env h.l Pingreq h.x) fault s c.pingreq.new.step left))
    (c.pingreq.ensures.left h.l h.x h.number)

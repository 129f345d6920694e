use Rattle.std.proofs.Common.{false, sym}
use Rattle.mqtt_packet.specs.declared.codec.packet.Packet.TheVariants as packets
use Rattle.mqtt_rules.specs.step.Forms.{published_of}
use Rattle.mqtt_broker_step.specs.Undoing.{moment_of}
use Rattle.mqtt_broker_step.proofs.Doing.{on_ok, if_err}
use Rattle.mqtt_broker_queue.proofs.queues_lemmas.Forms.{out_marked}
use Rattle.mqtt_broker_queue.proofs.queues_lemmas.Turned.{sent_done, sent_left}
use Rattle.mqtt_broker_queue.proofs.queues.turning.send.Goals as goal

pub returns-in-Ok-clause-ok : goal.returns-in-Ok-clause-ok
returns-in-Ok-clause-ok c =
    let s = c.args.step.now in
    let e = c.in-Some.row.now in
    let p = published_of (moment_of s.broker) false c.args.identifier e.copy in
    on_ok c.send_publish.result
    (sent_done c.args.line c.args.birth c.args.place c.args.identifier e s c.mark_sent.new.step c.send_publish.new.self (sym c.in-Some.ensures) c.in-Ok.ensures.ok)
    (c.send_publish.ensures.ok p (out_marked c.args.line c.args.birth c.args.place c.args.identifier c.args.line p c.in_ok-out.out s c.mark_sent.new.step c.in-Ok.ensures.ok c.in_ok-out.ensures))

pub returns-in-Ok-clause-left : goal.returns-in-Ok-clause-left
returns-in-Ok-clause-left c =
    let s = c.args.step.now in
    let e = c.in-Some.row.now in
    let p = published_of (moment_of s.broker) false c.args.identifier e.copy in
    if_err c.send_publish.result
    (λ fault. sent_left c.args.line c.args.birth c.args.place c.args.identifier e fault s c.mark_sent.new.step c.send_publish.new.self (sym c.in-Some.ensures) c.in-Ok.ensures.ok)
    (c.send_publish.ensures.left (packets.Publish p))

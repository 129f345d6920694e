use Rattle.std.specs.Prelude.{None}
use Rattle.mqtt_packet.specs.declared.codec.packet.Packet.TheVariants as packets
use Rattle.mqtt_rules.specs.step.Contents.{IsWilled}
use Rattle.mqtt_rules.specs.step.Laws.{IsCoherent}
use Rattle.mqtt_rules.specs.step.Routing.{subscribers}
use Rattle.mqtt_broker_step.proofs.Doing.{if_err, if_ok}
use Rattle.mqtt_broker_acts.specs.closing.Wills.{will_at}
use Rattle.mqtt_broker_acts.proofs.calls_lemmas.SomeCalls.{input_some_left, on_line, unheard_left}
use Rattle.mqtt_broker_acts.proofs.calls_lemmas.Greeted.{at_heard, greeted_by}
use Rattle.mqtt_broker_acts.proofs.calls.connecting.greet.Goals as goal

pub on_connect-requires-clause-coherent : goal.on_connect-requires-clause-coherent
on_connect-requires-clause-coherent g c =
    at_heard IsCoherent c.args.line c.args.step.now c.hear.new.self c.in-Ok.ensures.ok c.requires.coherent

pub on_connect-requires-clause-serves : goal.on_connect-requires-clause-serves
on_connect-requires-clause-serves g c =
    at_heard (λ r. g.R.Router.serves c.args.router.now (subscribers r)) c.args.line c.args.step.now c.hear.new.self c.in-Ok.ensures.ok c.requires.serves

pub on_connect-requires-clause-lawful : goal.on_connect-requires-clause-lawful
on_connect-requires-clause-lawful g c = λ birth.
    at_heard (λ r. IsWilled (will_at birth r)) c.args.line c.args.step.now c.hear.new.self c.in-Ok.ensures.ok (c.requires.lawful birth)

pub returns-in-Ok-clause-ok : goal.returns-in-Ok-clause-ok
returns-in-Ok-clause-ok g c =
    let s = c.args.step.now in
    let h = on_line c.args.line None s.broker c.requires.on in
    if_ok c.on_connect.result
    (λ joined. greeted_by joined c.args.line c.args.connect.now s c.hear.new.self c.on_connect.new.step h c.in-Ok.ensures.ok)
    (c.on_connect.ensures.ok h.l h.number)

pub returns-in-Ok-clause-left : goal.returns-in-Ok-clause-left
returns-in-Ok-clause-left g c =
    let s = c.args.step.now in
    let h = on_line c.args.line None s.broker c.requires.on in
    if_err c.on_connect.result
    (λ fault. input_some_left c.args.line None (packets.Connect c.args.connect.now) fault s c.hear.new.self c.on_connect.new.step h c.in-Ok.ensures.ok)
    (c.on_connect.ensures.left h.l h.number)

pub returns-in-Err-clause-left : goal.returns-in-Err-clause-left
returns-in-Err-clause-left g c =
    let s = c.args.step.now in
    let h = on_line c.args.line None s.broker c.requires.on in
    unheard_left c.args.line None (packets.Connect c.args.connect.now) c.in-Err.fault s c.hear.new.self h c.in-Err.ensures.left

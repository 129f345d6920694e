use Rattle.std.proofs.Common.{◌≡◌, true}
use Rattle.mqtt_broker_acts.specs.calls.Inputs.{is_stray}
use Rattle.mqtt_broker_acts.proofs.calls_lemmas.Answered.{other_stray}
use Rattle.mqtt_broker_acts.proofs.calls.calling.take.Goals as goal

pub returns-in_default-clause-ok : goal.returns-in_default-clause-ok
returns-in_default-clause-ok g c =
    let d = c.in_default in
    let stray : is_stray c.args.packet.now ≡ true =
    other_stray c.args.packet.now d.not-Publish d.not-Puback d.not-Pubrec d.not-Pubrel d.not-Pubcomp d.not-Subscribe d.not-Unsubscribe d.not-Pingreq d.not-Disconnect in
    c.stray.ensures.ok c.args.packet.now stray

pub returns-in_default-clause-left : goal.returns-in_default-clause-left
returns-in_default-clause-left g c =
    let d = c.in_default in
    let stray : is_stray c.args.packet.now ≡ true =
    other_stray c.args.packet.now d.not-Publish d.not-Puback d.not-Pubrec d.not-Pubrel d.not-Pubcomp d.not-Subscribe d.not-Unsubscribe d.not-Pingreq d.not-Disconnect in
    c.stray.ensures.left c.args.packet.now stray

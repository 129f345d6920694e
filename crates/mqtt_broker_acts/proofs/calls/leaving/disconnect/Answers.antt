use Rattle.std.proofs.Common.{◌≡◌, rules}
use Rattle.mqtt_props.specs.declared.table.PropName.TheVariants.{SessionExpiryInterval}
use Rattle.mqtt_records.specs.messages.PassedOn.{number_at}
use Rattle.mqtt_broker_step.proofs.Doing.{if_err, on_ok}
use Rattle.mqtt_broker_acts.proofs.calls_lemmas.OnLine.{on_line}
use Rattle.mqtt_broker_acts.proofs.calls_lemmas.Sources.{willed}
use Rattle.mqtt_broker_acts.proofs.calls_lemmas.Answered.{disconnect_left, disconnected}
use Rattle.mqtt_broker_acts.proofs.calls.leaving.disconnect.Goals as goal

pub disconnect-requires-clause-lawful : goal.disconnect-requires-clause-lawful
disconnect-requires-clause-lawful g c =
    willed c.args.step.now.broker.records c.requires.client.sources.stored c.args.birth

pub returns-clause-ok : goal.returns-clause-ok
returns-clause-ok g c =
    let s = c.args.step.now in
    let h = on_line c.args.line c.args.birth s.broker c.requires.client in
    let is : c.number_at-expiry.result ≡ number_at SessionExpiryInterval c.args.packet.now.properties = search rules in
    on_ok c.disconnect.result (disconnected c.args.line c.args.birth s h c.args.packet.now c.number_at-expiry.result c.disconnect.new.step is)
    (c.disconnect.ensures.ok h.l h.number h.session)

pub returns-clause-left : goal.returns-clause-left
returns-clause-left g c =
    let s = c.args.step.now in
    let h = on_line c.args.line c.args.birth s.broker c.requires.client in
    let is : c.number_at-expiry.result ≡ number_at SessionExpiryInterval c.args.packet.now.properties = search rules in
    if_err c.disconnect.result (λ fault. disconnect_left c.args.line c.args.birth s h c.args.packet.now c.number_at-expiry.result fault c.disconnect.new.step is)
    (c.disconnect.ensures.left h.l h.number h.session)

use Rattle.std.proofs.Common.{◌≡◌, true, false, rules, refl}
use Rattle.mqtt_rules.specs.step.Subscribe.{has_filter, wants_retained}
use Rattle.mqtt_topic.specs.names.Filters.{begins_share}
use Rattle.mqtt_broker_step.specs.Undoing.{moment_of}
use Rattle.mqtt_broker_step.proofs.Doing.{if_ok}
use Rattle.mqtt_broker_acts.specs.subscribing.Granting.{asked_for}
use Rattle.mqtt_broker_acts.proofs.subscribing_lemmas.Granted.{messages_are}
use Rattle.mqtt_broker_acts.proofs.subscribing.granting.messages.Goals as goal

pub returns : goal.returns
returns c =
    let w = asked_for c.args.asked.now c.args.options c.args.identifier in
    let plain : begins_share c.args.asked.now ≡ false = search rules in
    let wants : wants_retained c.args.options.retain_handling (has_filter c.args.asked.now c.args.session.now) ≡ true = search rules in
    if_ok c.brought.result
    (λ all is. messages_are (moment_of c.args.step.now.broker) c.args.session.now w c.args.step.now.broker.records.retained all.items plain wants is)
    (c.brought.ensures w refl refl)

use Rattle.std.proofs.Common.{◌≡◌, rules, subst}
use Rattle.mqtt_broker_acts.specs.connecting.Joining.{IsNamedAt}
use Rattle.mqtt_broker_acts.proofs.connecting_lemmas.Once.{only_one}
use Rattle.mqtt_broker_acts.proofs.connecting.whole.on_connect.Goals as goal

pub connect_standing-requires-clause-only : goal.connect_standing-requires-clause-only
connect_standing-requires-clause-only g c =
    let r = c.args.step.now.broker.records in
    let birth = c.in-Some-birth_named.birth in
    let text : c.as_str.result.now ≡ c.args.connect.now.client_identifier = search rules in
    only_one c.args.connect.now.client_identifier birth r c.requires.coherent (subst (λ name. IsNamedAt name birth r) text c.in-Some-birth_named.ensures.birth)

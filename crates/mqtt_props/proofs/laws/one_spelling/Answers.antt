-- A list has one spelling (MQTT 5.0, 2.2.2).
use Rattle.mqtt_props.proofs.LawLemmas.{IsBlock-block}
use Rattle.mqtt_props.proofs.laws.one_spelling.Goals as goal

pub returns : goal.returns
returns c = IsBlock-block

-- The test of repeated properties is a fact on pairs (MQTT 5.0, 2.2.2.2).
use Rattle.mqtt_props.proofs.LawLemmas.{none_repeats-NoneRepeats}
use Rattle.mqtt_props.proofs.laws.repeats_are_pairs.Goals as goal

pub returns : goal.returns
returns c = none_repeats-NoneRepeats

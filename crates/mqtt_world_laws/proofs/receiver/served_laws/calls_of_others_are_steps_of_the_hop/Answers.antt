-- By a walk over the acts.
use Rattle.mqtt_world_laws.proofs.receiver_lemmas.others.CallsOfOthers.{others_go_on}
use Rattle.mqtt_world_laws.proofs.receiver.served_laws.calls_of_others_are_steps_of_the_hop.Goals as goal

pub returns : goal.returns
returns c = record { others = others_go_on }

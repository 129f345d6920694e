-- By the restart behind the first step.
use Rattle.mqtt_world_laws.proofs.delivery_lemmas.others.Stops.{stopped_after_stands}
use Rattle.mqtt_world_laws.proofs.delivery.standing_laws.a_stop_after_the_commit_leaves_a_receiver_standing.Goals as goal

pub returns : goal.returns
returns c = record { stops = stopped_after_stands }

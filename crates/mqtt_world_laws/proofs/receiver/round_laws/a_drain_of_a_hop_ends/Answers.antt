-- Round by round: what the copies have to go falls.
use Rattle.mqtt_world_laws.proofs.receiver_lemmas.drains.DrainCauses.{causes_of_run}
use Rattle.mqtt_world_laws.proofs.receiver_lemmas.drains.RoundFurther.{empty_of_run, linked_of_run, rounds_of_run}
use Rattle.mqtt_world_laws.proofs.receiver.round_laws.a_drain_of_a_hop_ends.Goals as goal

pub returns : goal.returns
returns c = record { is_within = rounds_of_run; is_empty = empty_of_run; is_linked = linked_of_run; causes = causes_of_run }

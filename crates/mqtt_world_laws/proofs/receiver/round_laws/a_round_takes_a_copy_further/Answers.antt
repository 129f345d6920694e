-- If something is under way, an answer to it takes a copy further; else a pump sends or ends the first copy.
use Rattle.mqtt_world_laws.proofs.receiver_lemmas.drains.RoundFurther.{round_of_run}
use Rattle.mqtt_world_laws.proofs.receiver.round_laws.a_round_takes_a_copy_further.Goals as goal

pub returns : goal.returns
returns c = record { is_further = round_of_run }

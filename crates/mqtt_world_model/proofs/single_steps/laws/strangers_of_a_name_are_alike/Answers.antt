-- Whatever happens.
use Rattle.mqtt_world_model.proofs.single_steps_lemmas.Alike.{step_alike}
use Rattle.mqtt_world_model.proofs.single_steps.laws.strangers_of_a_name_are_alike.Goals as goal

pub returns : goal.returns
returns c = record { begins = λ name. tt; stays = step_alike }

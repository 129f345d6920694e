-- A stop after the commit.
use Rattle.mqtt_world_model.proofs.single_steps_lemmas.Steps.{stop_first, stop_is}
use Rattle.mqtt_world_model.proofs.single_steps.laws.a_stop_after_is_a_step_and_a_restart.Goals as goal

pub returns : goal.returns
returns c = record { is = stop_is; first = stop_first }

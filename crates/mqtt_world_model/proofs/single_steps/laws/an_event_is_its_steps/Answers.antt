-- Step by step.
use Rattle.mqtt_world_model.proofs.single_steps_lemmas.Steps.{event_is}
use Rattle.mqtt_world_model.proofs.single_steps.laws.an_event_is_its_steps.Goals as goal

pub returns : goal.returns
returns c = record { is = event_is }

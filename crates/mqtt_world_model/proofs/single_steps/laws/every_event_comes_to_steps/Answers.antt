-- Cut by cut.
use Rattle.mqtt_world_model.proofs.single_steps_lemmas.Answered.{nothing_first}
use Rattle.mqtt_world_model.proofs.single_steps_lemmas.Cutting.{event_comes}
use Rattle.mqtt_world_model.proofs.single_steps_lemmas.Waiting.{step_waits}
use Rattle.mqtt_world_model.proofs.single_steps.laws.every_event_comes_to_steps.Goals as goal

pub returns : goal.returns
returns c = record { some = event_comes; begins = λ name. nothing_first; stays = step_waits }

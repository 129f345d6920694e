-- By what holds of each end after every event.
use Rattle.mqtt_world_model.proofs.single_steps_lemmas.TakenEnds.{publishers_taken, receivers_taken}
use Rattle.mqtt_world_model.proofs.single_steps.taken_laws.packets_of_ends_are_taken.Goals as goal

pub returns-clause-publishers : goal.returns-clause-publishers
returns-clause-publishers c = publishers_taken

pub returns-clause-receivers : goal.returns-clause-receivers
returns-clause-receivers c = receivers_taken

-- Event by event.
use Rattle.mqtt_world_model.proofs.single_steps_lemmas.TakenEnds.{from_publishers, from_receivers, nobody_sound, turned_sound}
use Rattle.mqtt_world_model.proofs.single_steps.taken_laws.ends_stay_sound.Goals as goal

pub returns-clause-begins : goal.returns-clause-begins
returns-clause-begins c = nobody_sound

pub returns-clause-stays : goal.returns-clause-stays
returns-clause-stays c = turned_sound

pub returns-clause-publishers : goal.returns-clause-publishers
returns-clause-publishers c = from_publishers

pub returns-clause-receivers : goal.returns-clause-receivers
returns-clause-receivers c = from_receivers

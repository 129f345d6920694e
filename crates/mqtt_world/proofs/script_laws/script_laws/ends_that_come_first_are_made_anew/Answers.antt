-- By the broker, which the making of an end leaves as it is.
use Rattle.mqtt_world.proofs.script_laws_lemmas.Anew.{made_first, made_from_nothing}
use Rattle.mqtt_world.proofs.script_laws.script_laws.ends_that_come_first_are_made_anew.Goals as goal

pub returns-clause-stored : goal.returns-clause-stored
returns-clause-stored c = made_first

pub returns-clause-from_nothing : goal.returns-clause-from_nothing
returns-clause-from_nothing c = made_from_nothing

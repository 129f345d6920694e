-- By what is under way in a run.
use Rattle.mqtt_world.proofs.script_laws_lemmas.Fronts.{script_fronts, script_refuses, start_refuses}
use Rattle.mqtt_world.proofs.script_laws.script_laws.what_is_in_front_is_taken.Goals as goal

pub returns-clause-fronts : goal.returns-clause-fronts
returns-clause-fronts c = script_fronts

pub returns-clause-refuses : goal.returns-clause-refuses
returns-clause-refuses c = script_refuses

pub returns-clause-from_nothing : goal.returns-clause-from_nothing
returns-clause-from_nothing c = start_refuses

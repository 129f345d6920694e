-- By what a restart forgets.
use Rattle.mqtt_world.proofs.script_laws_lemmas.Comings.{stops_before_first, stops_before_plain, stops_before_there}
use Rattle.mqtt_world.proofs.script_laws.turn_laws.a_stop_before_is_a_restart.Goals as goal

pub returns-clause-plain : goal.returns-clause-plain
returns-clause-plain c = stops_before_plain

pub returns-clause-there : goal.returns-clause-there
returns-clause-there c = stops_before_there

pub returns-clause-first : goal.returns-clause-first
returns-clause-first c = stops_before_first

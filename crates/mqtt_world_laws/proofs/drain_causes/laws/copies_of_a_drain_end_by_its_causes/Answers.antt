-- Turn by turn.
use Rattle.mqtt_world_laws.proofs.drain_causes_lemmas.DrainRuns.{drain_ends, script_ends, start_ends}
use Rattle.mqtt_world_laws.proofs.drain_causes.laws.copies_of_a_drain_end_by_its_causes.Goals as goal

pub returns-clause-ends : goal.returns-clause-ends
returns-clause-ends c = drain_ends

pub returns-clause-of_scripts : goal.returns-clause-of_scripts
returns-clause-of_scripts c = script_ends

pub returns-clause-from_nothing : goal.returns-clause-from_nothing
returns-clause-from_nothing c = start_ends

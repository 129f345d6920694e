-- By what is stored, and what a receiver's line takes.
use Rattle.mqtt_world_laws.proofs.drain_causes_lemmas.Fitting.{drain_fits, drains_fit, start_drains_fit}
use Rattle.mqtt_world_laws.proofs.drain_causes.laws.no_copy_is_too_large_in_a_drain.Goals as goal

pub returns-clause-ends : goal.returns-clause-ends
returns-clause-ends c = drain_fits

pub returns-clause-of_scripts : goal.returns-clause-of_scripts
returns-clause-of_scripts c = drains_fit

pub returns-clause-from_nothing : goal.returns-clause-from_nothing
returns-clause-from_nothing c = start_drains_fit

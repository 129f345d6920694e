use Rattle.mqtt_world_laws.proofs.fitting_lemmas.Runs.{run_fits, run_pumps, start_fits}
use Rattle.mqtt_world_laws.proofs.fitting.laws.whole_copies_fit_in_every_run.Goals as goal

pub returns-clause-runs : goal.returns-clause-runs
returns-clause-runs c = run_fits

pub returns-clause-from_nothing : goal.returns-clause-from_nothing
returns-clause-from_nothing c = start_fits

pub returns-clause-pumps : goal.returns-clause-pumps
returns-clause-pumps c = run_pumps

-- By what each act lets leave, and the steps of a run.
use Rattle.mqtt_world_laws.proofs.causes_lemmas.CauseRuns.{run_caused, all_ends}
use Rattle.mqtt_world_laws.proofs.causes.cause_laws.each_end_has_its_cause.Goals as goal

pub returns-clause-causes : goal.returns-clause-causes
returns-clause-causes c = run_caused

pub returns-clause-all : goal.returns-clause-all
returns-clause-all c = all_ends

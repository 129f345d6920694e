-- By what each act puts out, and what a step puts on the lines.
use Rattle.mqtt_world_laws.proofs.acceptance_lemmas.publishers.Arrivals.{arrives, is_kept_back}
use Rattle.mqtt_world_laws.proofs.acceptance_lemmas.copies.StepRuns.{run_goes_out}
use Rattle.mqtt_world_laws.proofs.acceptance.run_laws.copies_of_qos_0_go_out_at_once.Goals as goal

pub returns-clause-outputs : goal.returns-clause-outputs
returns-clause-outputs c = run_goes_out

pub returns-clause-arrive : goal.returns-clause-arrive
returns-clause-arrive c = arrives

pub returns-clause-kept_back : goal.returns-clause-kept_back
returns-clause-kept_back c = is_kept_back

-- By the laws of an opening.
use Rattle.mqtt_world_laws.proofs.acceptance_lemmas.copies.OnceRuns.{start_apart, opened_apart}
use Rattle.mqtt_world_laws.proofs.acceptance_lemmas.publishers.Runs.{start_new, opened_new}
use Rattle.mqtt_world_laws.proofs.acceptance.run_laws.a_world_may_begin.Goals as goal

pub returns-clause-empty : goal.returns-clause-empty
returns-clause-empty c = start_new

pub returns-clause-stored : goal.returns-clause-stored
returns-clause-stored c = opened_new

pub returns-clause-apart : goal.returns-clause-apart
returns-clause-apart c = start_apart

pub returns-clause-stored_apart : goal.returns-clause-stored_apart
returns-clause-stored_apart c = opened_apart

-- By the routing of each act, and the numbers of each step.
use Rattle.mqtt_world_laws.proofs.acceptance_lemmas.copies.CopyRuns.{run_numbers}
use Rattle.mqtt_world_laws.proofs.acceptance_lemmas.copies.Routed.{run_routed}
use Rattle.mqtt_world_laws.proofs.acceptance.run_laws.every_publication_is_routed.Goals as goal

pub returns-clause-routed : goal.returns-clause-routed
returns-clause-routed c = run_routed

pub returns-clause-numbered : goal.returns-clause-numbered
returns-clause-numbered c = run_numbers

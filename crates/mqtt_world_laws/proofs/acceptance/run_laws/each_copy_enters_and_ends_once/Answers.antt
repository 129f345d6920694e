-- By what is counted off as numbers are given, and the counts over each deed.
use Rattle.mqtt_world_laws.proofs.acceptance_lemmas.copies.OnceRuns.{enters_once, ends_once, waits_or_has_ended}
use Rattle.mqtt_world_laws.proofs.acceptance.run_laws.each_copy_enters_and_ends_once.Goals as goal

pub returns-clause-enters : goal.returns-clause-enters
returns-clause-enters c = enters_once

pub returns-clause-ends : goal.returns-clause-ends
returns-clause-ends c = ends_once

pub returns-clause-either : goal.returns-clause-either
returns-clause-either c = waits_or_has_ended

-- By the counts over each deed.
use Rattle.mqtt_world_laws.proofs.acceptance_lemmas.copies.CopyRuns.{run_balances}
use Rattle.mqtt_world_laws.proofs.acceptance.run_laws.every_copy_waits_or_has_ended.Goals as goal

pub returns : goal.returns
returns c = record { balance = run_balances }

use Rattle.mqtt_keep.proofs.contents_lemmas.Nothing.{nothing_shared}
use Rattle.mqtt_rules.proofs.sharing_lemmas.Steps.{opening_fits, opening_shared, run_shared, step_fits, step_shared}
use Rattle.mqtt_rules.proofs.sharing.laws.contents_are_shared.Goals as goal

pub returns-clause-run : goal.returns-clause-run
returns-clause-run c = run_shared

pub returns-clause-nothing : goal.returns-clause-nothing
returns-clause-nothing c = nothing_shared

pub returns-clause-rows : goal.returns-clause-rows
returns-clause-rows c = step_fits

pub returns-clause-step : goal.returns-clause-step
returns-clause-step c = step_shared

pub returns-clause-opening : goal.returns-clause-opening
returns-clause-opening c = opening_fits

pub returns-clause-opened : goal.returns-clause-opened
returns-clause-opened c = opening_shared

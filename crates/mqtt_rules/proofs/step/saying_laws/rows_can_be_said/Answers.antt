use Rattle.mqtt_rules.proofs.step_lemmas.contents.SayableRows.{step_said, opening_said}
use Rattle.mqtt_rules.proofs.step.saying_laws.rows_can_be_said.Goals as goal

pub returns-clause-step : goal.returns-clause-step
returns-clause-step c = λ sizes limits choice now call b are. step_said sizes are limits choice now call b

pub returns-clause-opening : goal.returns-clause-opening
returns-clause-opening c = λ sizes limits choice now r are. opening_said sizes are limits choice now r

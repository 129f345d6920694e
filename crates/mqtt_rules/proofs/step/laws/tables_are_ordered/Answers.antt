use Rattle.mqtt_rules.proofs.step_lemmas.order.Ordered.{nothing-ordered, changed-ordered}
use Rattle.mqtt_rules.proofs.step_lemmas.order.OrderedSteps.{step-ordered, opening-ordered, run-ordered}
use Rattle.mqtt_rules.proofs.step.laws.tables_are_ordered.Goals as goal

pub returns-clause-nothing : goal.returns-clause-nothing
returns-clause-nothing c = nothing-ordered

pub returns-clause-change : goal.returns-clause-change
returns-clause-change c = changed-ordered

pub returns-clause-step : goal.returns-clause-step
returns-clause-step c = step-ordered

pub returns-clause-opening : goal.returns-clause-opening
returns-clause-opening c = opening-ordered

pub returns-clause-run : goal.returns-clause-run
returns-clause-run c = run-ordered

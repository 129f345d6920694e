use Rattle.mqtt_rules.specs.step.State.{stored}
use Rattle.mqtt_rules.specs.step.Step.{stepped}
use Rattle.mqtt_rules.specs.step.Laws.{after_events, blank}
use Rattle.mqtt_rules.proofs.step_lemmas.order.OrderedSteps.{step-ordered, run-ordered, few_open}
use Rattle.mqtt_rules.proofs.step.laws.at_most_twenty_open.Goals as goal

pub returns-clause-run : goal.returns-clause-run
returns-clause-run c = λ events. few_open (stored (after_events events blank)) (run-ordered events)

pub returns-clause-step : goal.returns-clause-step
returns-clause-step c = λ limits choice now call b h. few_open (stored (stepped limits choice now call b)) (step-ordered limits choice now call b h)

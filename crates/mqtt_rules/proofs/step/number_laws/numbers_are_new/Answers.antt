use Rattle.mqtt_rules.proofs.step_lemmas.numbers.NumberSteps.{step_counts, opening_counts}
use Rattle.mqtt_rules.proofs.step.number_laws.numbers_are_new.Goals as goal

pub returns-clause-step : goal.returns-clause-step
returns-clause-step c = step_counts

pub returns-clause-opening : goal.returns-clause-opening
returns-clause-opening c = opening_counts

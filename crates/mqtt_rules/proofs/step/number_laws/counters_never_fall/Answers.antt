use Rattle.mqtt_rules.proofs.step_lemmas.numbers.NumberSteps.{step_fell, opening_fell, step_timed, opening_timed}
use Rattle.mqtt_rules.proofs.step.number_laws.counters_never_fall.Goals as goal

pub returns-clause-step : goal.returns-clause-step
returns-clause-step c = step_fell

pub returns-clause-opening : goal.returns-clause-opening
returns-clause-opening c = opening_fell

pub returns-clause-moment : goal.returns-clause-moment
returns-clause-moment c = step_timed

pub returns-clause-opening_moment : goal.returns-clause-opening_moment
returns-clause-opening_moment c = opening_timed

use Rattle.mqtt_rules.proofs.step_lemmas.numbers.NumberOrder.{step_order, opening_order, nothing_order}
use Rattle.mqtt_rules.proofs.step.number_laws.births_and_places_are_unique.Goals as goal

pub returns-clause-step : goal.returns-clause-step
returns-clause-step c = step_order

pub returns-clause-opening : goal.returns-clause-opening
returns-clause-opening c = opening_order

pub returns-clause-nothing : goal.returns-clause-nothing
returns-clause-nothing c = nothing_order

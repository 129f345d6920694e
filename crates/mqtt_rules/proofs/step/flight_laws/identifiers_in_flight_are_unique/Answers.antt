use Rattle.mqtt_rules.proofs.step_lemmas.flight.FlightStep.{step_keeps, opening_keeps}
use Rattle.mqtt_rules.proofs.step.flight_laws.identifiers_in_flight_are_unique.Goals as goal

pub returns-clause-step : goal.returns-clause-step
returns-clause-step c = step_keeps

pub returns-clause-opening : goal.returns-clause-opening
returns-clause-opening c = opening_keeps

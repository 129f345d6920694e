use Rattle.mqtt_broker.proofs.reopening_lemmas.BoundsKept.{step_bounds, opening_bounds}
use Rattle.mqtt_broker.proofs.reopening.laws.numbers_stay_within_the_last.Goals as goal

pub returns-clause-nothing : goal.returns-clause-nothing
returns-clause-nothing c = record { sessions = tt; retained = tt }

pub returns-clause-step : goal.returns-clause-step
returns-clause-step c = step_bounds

pub returns-clause-opening : goal.returns-clause-opening
returns-clause-opening c = opening_bounds

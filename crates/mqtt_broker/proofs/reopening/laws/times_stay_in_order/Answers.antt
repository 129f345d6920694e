use Rattle.mqtt_broker.proofs.reopening_lemmas.TimesKept.{step_timely, opening_timely}
use Rattle.mqtt_broker.proofs.reopening.laws.times_stay_in_order.Goals as goal

pub returns-clause-nothing : goal.returns-clause-nothing
returns-clause-nothing c = record { sessions = tt; retained = tt }

pub returns-clause-step : goal.returns-clause-step
returns-clause-step c = step_timely

pub returns-clause-opening : goal.returns-clause-opening
returns-clause-opening c = opening_timely

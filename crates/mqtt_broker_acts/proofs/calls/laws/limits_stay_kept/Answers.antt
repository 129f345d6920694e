use Rattle.mqtt_broker_acts.proofs.calls_lemmas.SoundLaw.{step_within, opening_within}
use Rattle.mqtt_broker_acts.proofs.calls.laws.limits_stay_kept.Goals as goal

pub returns-clause-step : goal.returns-clause-step
returns-clause-step c = step_within

pub returns-clause-opening : goal.returns-clause-opening
returns-clause-opening c = opening_within

use Rattle.mqtt_broker.proofs.reopening_lemmas.PhasesKept.{step_phases, opening_phases}
use Rattle.mqtt_broker.proofs.reopening.laws.phases_fit_their_service.Goals as goal

pub returns-clause-nothing : goal.returns-clause-nothing
returns-clause-nothing c = tt

pub returns-clause-step : goal.returns-clause-step
returns-clause-step c = step_phases

pub returns-clause-opening : goal.returns-clause-opening
returns-clause-opening c = opening_phases

use Rattle.mqtt_rules.proofs.spelling_lemmas.Steps.{opening_phases, step_phases}
use Rattle.mqtt_rules.proofs.spelling.laws.identifiers_stay_two_bytes.Goals as goal

pub returns-clause-nothing : goal.returns-clause-nothing
returns-clause-nothing c = tt

pub returns-clause-step : goal.returns-clause-step
returns-clause-step c = step_phases

pub returns-clause-opening : goal.returns-clause-opening
returns-clause-opening c = opening_phases

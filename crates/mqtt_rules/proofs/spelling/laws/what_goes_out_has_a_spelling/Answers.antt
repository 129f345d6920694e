use Rattle.mqtt_rules.proofs.spelling_lemmas.Steps.{bytes_tell, step_spelled}
use Rattle.mqtt_rules.proofs.spelling.laws.what_goes_out_has_a_spelling.Goals as goal

pub returns-clause-step : goal.returns-clause-step
returns-clause-step c = step_spelled

pub returns-clause-fault : goal.returns-clause-fault
returns-clause-fault c = bytes_tell

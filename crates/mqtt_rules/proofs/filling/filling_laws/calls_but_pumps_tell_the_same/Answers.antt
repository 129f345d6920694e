use Rattle.mqtt_rules.proofs.filling_lemmas.Steps.{call_tells}
use Rattle.mqtt_rules.proofs.filling.filling_laws.calls_but_pumps_tell_the_same.Goals as goal

pub returns : goal.returns
returns c = record { told = call_tells }

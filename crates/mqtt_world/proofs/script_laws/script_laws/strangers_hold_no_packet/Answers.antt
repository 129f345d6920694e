-- Turn by turn.
use Rattle.mqtt_world.proofs.script_laws_lemmas.Carrying.{script_alike, script_waits}
use Rattle.mqtt_world.proofs.script_laws.script_laws.strangers_hold_no_packet.Goals as goal

pub returns-clause-alike : goal.returns-clause-alike
returns-clause-alike c = script_alike

pub returns-clause-waits : goal.returns-clause-waits
returns-clause-waits c = script_waits

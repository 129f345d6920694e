use Rattle.mqtt_world_laws.proofs.knowing_lemmas.Calls.{knowing_called, meant_out}
use Rattle.mqtt_world_laws.proofs.knowing.laws.ends_read_what_was_meant.Goals as goal

pub returns-clause-out : goal.returns-clause-out
returns-clause-out c = meant_out

pub returns-clause-after : goal.returns-clause-after
returns-clause-after c = knowing_called

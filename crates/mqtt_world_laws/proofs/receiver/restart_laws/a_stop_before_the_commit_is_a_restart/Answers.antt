-- By what was asked for.
use Rattle.mqtt_world_laws.proofs.receiver_lemmas.connects.Stopping.{alike_before}
use Rattle.mqtt_world_laws.proofs.receiver.restart_laws.a_stop_before_the_commit_is_a_restart.Goals as goal

pub returns : goal.returns
returns c = record { alike = alike_before }

-- Round by round.
use Rattle.mqtt_world_laws.proofs.receiver_lemmas.drains.DrainRuns.{drains_are_runs}
use Rattle.mqtt_world_laws.proofs.receiver.drain_laws.a_script_with_drains_is_a_run.Goals as goal

pub returns : goal.returns
returns c = record { is_run = drains_are_runs }

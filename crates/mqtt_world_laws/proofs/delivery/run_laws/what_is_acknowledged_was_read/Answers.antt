-- By what the receiver's hop makes of its PUBACK.
use Rattle.mqtt_world_laws.proofs.delivery_lemmas.whole.EveryRun.{run_acknowledges, run_acknowledges_there}
use Rattle.mqtt_world_laws.proofs.delivery.run_laws.what_is_acknowledged_was_read.Goals as goal

pub returns : goal.returns
returns c = record { reads = run_acknowledges; reads_old = run_acknowledges_there }

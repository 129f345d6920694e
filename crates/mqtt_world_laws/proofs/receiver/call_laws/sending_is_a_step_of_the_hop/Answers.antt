-- By the turns of a pump.
use Rattle.mqtt_world_laws.proofs.receiver_lemmas.queue.Sending.{pump_runs}
use Rattle.mqtt_world_laws.proofs.receiver.call_laws.sending_is_a_step_of_the_hop.Goals as goal

pub returns : goal.returns
returns c = record { sends = pump_runs }

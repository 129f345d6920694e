-- By the turns that make way.
use Rattle.mqtt_world_laws.proofs.receiver_lemmas.queue.Entering.{entering_runs}
use Rattle.mqtt_world_laws.proofs.receiver.copy_laws.a_copy_that_enters_is_a_step_of_the_hop.Goals as goal

pub returns : goal.returns
returns c = record { enters = entering_runs }

-- By the turns of those that have expired.
use Rattle.mqtt_world_laws.proofs.receiver_lemmas.queue.Entering.{lapsing_runs}
use Rattle.mqtt_world_laws.proofs.receiver.copy_laws.copies_that_expire_are_steps_of_the_hop.Goals as goal

pub returns : goal.returns
returns c = record { lapses = lapsing_runs }

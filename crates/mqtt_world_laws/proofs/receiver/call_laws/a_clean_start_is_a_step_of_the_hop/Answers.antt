-- By the deeds of CONNECT.
use Rattle.mqtt_world_laws.proofs.receiver_lemmas.connects.Renewing.{renewal_runs}
use Rattle.mqtt_world_laws.proofs.receiver.call_laws.a_clean_start_is_a_step_of_the_hop.Goals as goal

pub returns : goal.returns
returns c = record { renews = renewal_runs }

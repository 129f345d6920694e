-- By the deeds of CONNECT.
use Rattle.mqtt_world_laws.proofs.receiver_lemmas.connects.Beginning.{first_begins}
use Rattle.mqtt_world_laws.proofs.receiver.call_laws.a_new_session_is_a_step_of_the_hop.Goals as goal

pub returns : goal.returns
returns c = record { begins = first_begins }

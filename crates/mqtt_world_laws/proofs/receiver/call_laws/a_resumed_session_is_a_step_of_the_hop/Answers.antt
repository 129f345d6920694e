-- By the deeds of CONNECT.
use Rattle.mqtt_world_laws.proofs.receiver_lemmas.connects.Resuming.{connect_runs}
use Rattle.mqtt_world_laws.proofs.receiver.call_laws.a_resumed_session_is_a_step_of_the_hop.Goals as goal

pub returns : goal.returns
returns c = record { resumes = connect_runs }

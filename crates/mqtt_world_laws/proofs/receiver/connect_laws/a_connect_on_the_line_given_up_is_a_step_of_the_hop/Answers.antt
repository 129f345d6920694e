-- By what a CONNECT makes of the session, on whatever line.
use Rattle.mqtt_world_laws.proofs.receiver_lemmas.connects.LateResuming.{late_connect_runs}
use Rattle.mqtt_world_laws.proofs.receiver.connect_laws.a_connect_on_the_line_given_up_is_a_step_of_the_hop.Goals as goal

pub returns : goal.returns
returns c = record { resumes = late_connect_runs }

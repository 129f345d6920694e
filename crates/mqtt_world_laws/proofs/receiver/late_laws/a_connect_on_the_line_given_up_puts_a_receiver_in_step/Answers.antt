-- By what a CONNECT makes of a session, on whatever line.
use Rattle.mqtt_world_laws.proofs.receiver_lemmas.connects.LateBeginning.{late_first_in_step, late_refused_awaiting, late_renewal_in_step}
use Rattle.mqtt_world_laws.proofs.receiver_lemmas.connects.LateResuming.{late_resume_in_step}
use Rattle.mqtt_world_laws.proofs.receiver.late_laws.a_connect_on_the_line_given_up_puts_a_receiver_in_step.Goals as goal

pub returns : goal.returns
returns c = record { resumes = late_resume_in_step; begins = late_first_in_step; renews = late_renewal_in_step; refuses = late_refused_awaiting }

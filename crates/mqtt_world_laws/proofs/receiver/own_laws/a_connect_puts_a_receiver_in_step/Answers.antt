-- By the deeds of a CONNECT.
use Rattle.mqtt_world_laws.proofs.receiver_lemmas.connects.OwnConnects.{first_in_step, renewal_in_step, resume_in_step}
use Rattle.mqtt_world_laws.proofs.receiver_lemmas.connects.OwnRefusals.{refused_awaiting}
use Rattle.mqtt_world_laws.proofs.receiver.own_laws.a_connect_puts_a_receiver_in_step.Goals as goal

pub returns : goal.returns
returns c = record { resumes = resume_in_step; begins = first_in_step; renews = renewal_in_step; refuses = refused_awaiting }

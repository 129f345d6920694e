-- By the laws of calls of others.
use Rattle.mqtt_world_laws.proofs.receiver_lemmas.own.OwnOthers.{late_in_step, others_in_step}
use Rattle.mqtt_world_laws.proofs.receiver.own_laws.calls_of_others_leave_a_receiver_in_step.Goals as goal

pub returns : goal.returns
returns c = record { others = others_in_step; closes = late_in_step }

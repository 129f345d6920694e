-- By a walk over the acts, and by the only deed of the tick.
use Rattle.mqtt_world_laws.proofs.receiver_lemmas.others.AwaitingOthers.{late_awaiting, others_awaiting}
use Rattle.mqtt_world_laws.proofs.receiver.late_laws.calls_of_others_leave_a_receiver_awaiting.Goals as goal

pub returns : goal.returns
returns c = record { others = others_awaiting; closes = late_awaiting }

-- Its name, session and lines stay.
use Rattle.mqtt_world_laws.proofs.receiver_lemmas.own.OwnDoings.{asks_in_step, gives_up_in_step, joins_in_step, reads_in_step}
use Rattle.mqtt_world_laws.proofs.receiver.doing_laws.own_doings_leave_a_receiver_in_step.Goals as goal

pub returns : goal.returns
returns c = record { reads = reads_in_step; gives_up = gives_up_in_step; asks = asks_in_step; joins = joins_in_step }

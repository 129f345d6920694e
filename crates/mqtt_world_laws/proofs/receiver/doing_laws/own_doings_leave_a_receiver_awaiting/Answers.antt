-- Its name and lines stay.
use Rattle.mqtt_world_laws.proofs.receiver_lemmas.own.OwnDoings.{asks_awaiting, comes_awaiting, gives_up_awaiting, joins_awaiting, reads_awaiting}
use Rattle.mqtt_world_laws.proofs.receiver.doing_laws.own_doings_leave_a_receiver_awaiting.Goals as goal

pub returns : goal.returns
returns c = record { comes = comes_awaiting; reads = reads_awaiting; gives_up = gives_up_awaiting; asks = asks_awaiting; joins = joins_awaiting }

-- By where the session is connected then, and what becomes of the other line.
use Rattle.mqtt_world_laws.proofs.delivery_lemmas.own.LateConnects.{old_connected_stands}
use Rattle.mqtt_world_laws.proofs.delivery_lemmas.own.OwnConnects.{connected_stands}
use Rattle.mqtt_world_laws.proofs.delivery.connect_laws.a_connect_leaves_a_receiver_standing.Goals as goal

pub returns : goal.returns
returns c = record { reads = connected_stands; reads_old = old_connected_stands }

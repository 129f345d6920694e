-- By what a filter brings, and by the line that it comes on.
use Rattle.mqtt_world_laws.proofs.delivery_lemmas.own.Wishes.{old_wished_stands, wished_stands}
use Rattle.mqtt_world_laws.proofs.delivery.wish_laws.a_subscribe_leaves_a_receiver_standing.Goals as goal

pub returns : goal.returns
returns c = record { reads = wished_stands; reads_old = old_wished_stands }

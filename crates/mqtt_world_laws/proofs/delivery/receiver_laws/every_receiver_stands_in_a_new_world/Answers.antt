-- Nobody is there yet.
use Rattle.mqtt_world_laws.proofs.delivery_lemmas.others.Standings.{new_stands}
use Rattle.mqtt_world_laws.proofs.delivery.receiver_laws.every_receiver_stands_in_a_new_world.Goals as goal

pub returns : goal.returns
returns c = record { begins = new_stands }

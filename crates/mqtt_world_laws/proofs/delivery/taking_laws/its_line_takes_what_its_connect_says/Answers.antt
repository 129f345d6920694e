-- By what changes a line's window and size: CONNECT alone.
use Rattle.mqtt_world_laws.proofs.delivery_lemmas.own.Taking.{new_takes, takes_there, turn_takes}
use Rattle.mqtt_world_laws.proofs.delivery.taking_laws.its_line_takes_what_its_connect_says.Goals as goal

pub returns : goal.returns
returns c = record { begins = new_takes; keeps = turn_takes; connected = takes_there }

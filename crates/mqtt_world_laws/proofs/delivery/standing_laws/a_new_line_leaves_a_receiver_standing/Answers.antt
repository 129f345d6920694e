-- By the new line, its own or another's.
use Rattle.mqtt_world_laws.proofs.delivery_lemmas.others.Joining.{joined_stands}
use Rattle.mqtt_world_laws.proofs.delivery.standing_laws.a_new_line_leaves_a_receiver_standing.Goals as goal

pub returns : goal.returns
returns c = record { joins = joined_stands }

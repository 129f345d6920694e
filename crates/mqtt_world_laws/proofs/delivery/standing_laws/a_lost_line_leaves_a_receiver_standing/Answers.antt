-- By whose line it is, and whether a session is connected there.
use Rattle.mqtt_world_laws.proofs.delivery_lemmas.others.Losses.{broken_stands}
use Rattle.mqtt_world_laws.proofs.delivery.standing_laws.a_lost_line_leaves_a_receiver_standing.Goals as goal

pub returns : goal.returns
returns c = record { loses = broken_stands }

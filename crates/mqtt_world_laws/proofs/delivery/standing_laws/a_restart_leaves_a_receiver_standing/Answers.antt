-- By what is stored, since no line is left.
use Rattle.mqtt_world_laws.proofs.delivery_lemmas.others.Restarts.{restarted_stands, stopped_stands}
use Rattle.mqtt_world_laws.proofs.delivery.standing_laws.a_restart_leaves_a_receiver_standing.Goals as goal

pub returns : goal.returns
returns c = record { restarts = restarted_stands; stops = stopped_stands }

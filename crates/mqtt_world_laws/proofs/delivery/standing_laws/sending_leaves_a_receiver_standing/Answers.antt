-- By whether a session is connected there.
use Rattle.mqtt_world_laws.proofs.delivery_lemmas.own.Pumping.{sent_stands}
use Rattle.mqtt_world_laws.proofs.delivery.standing_laws.sending_leaves_a_receiver_standing.Goals as goal

pub returns : goal.returns
returns c = record { sends = sent_stands }

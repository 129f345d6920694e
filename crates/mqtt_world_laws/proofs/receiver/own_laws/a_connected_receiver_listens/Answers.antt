-- By the order of lines and sessions.
use Rattle.mqtt_world_laws.proofs.receiver_lemmas.own.Listening.{lingers_in_step, listens_in_step}
use Rattle.mqtt_world_laws.proofs.receiver.own_laws.a_connected_receiver_listens.Goals as goal

pub returns : goal.returns
returns c = record { listens = listens_in_step; lingers = lingers_in_step }

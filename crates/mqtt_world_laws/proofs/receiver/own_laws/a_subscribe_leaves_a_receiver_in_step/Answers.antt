-- By the copies that enter one after the other.
use Rattle.mqtt_world_laws.proofs.receiver_lemmas.own.OwnSubscribes.{subscribes_in_step}
use Rattle.mqtt_world_laws.proofs.receiver.own_laws.a_subscribe_leaves_a_receiver_in_step.Goals as goal

pub returns : goal.returns
returns c = record { subscribes = subscribes_in_step }

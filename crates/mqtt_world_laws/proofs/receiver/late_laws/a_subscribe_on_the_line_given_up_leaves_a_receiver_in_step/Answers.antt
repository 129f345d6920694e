-- By what a SUBSCRIBE brings, on whatever line.
use Rattle.mqtt_world_laws.proofs.receiver_lemmas.own.OwnSubscribes.{old_subscribes_in_step}
use Rattle.mqtt_world_laws.proofs.receiver.late_laws.a_subscribe_on_the_line_given_up_leaves_a_receiver_in_step.Goals as goal

pub returns : goal.returns
returns c = record { subscribes = old_subscribes_in_step }

-- By their publications, or by the filter's number.
use Rattle.mqtt_world_laws.proofs.receiver_lemmas.queue.Apart.{apart_entered, apart_old_subscribed, apart_still, apart_subscribed}
use Rattle.mqtt_world_laws.proofs.receiver.apart_laws.copies_that_enter_are_told_apart.Goals as goal

pub returns : goal.returns
returns c = record { stay = apart_still; enter = apart_entered; subscribes = apart_subscribed; old_subscribes = apart_old_subscribed }

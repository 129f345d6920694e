use Rattle.mqtt_broker_looks.proofs.at_hand_lemmas.Stored.{hand_says}
use Rattle.mqtt_broker_looks.proofs.at_hand.laws.stays_what_is_stored.Goals as goal

pub returns : goal.returns
returns c = hand_says

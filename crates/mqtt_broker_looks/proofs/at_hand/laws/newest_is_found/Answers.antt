use Rattle.mqtt_broker_looks.specs.at_hand.Hand.{at_hand_of}
use Rattle.mqtt_broker_looks.proofs.at_hand_lemmas.Stored.{newest_found}
use Rattle.mqtt_broker_looks.proofs.at_hand.laws.newest_is_found.Goals as goal

pub returns : goal.returns
returns c = λ hand birth row ends room. newest_found birth row (at_hand_of birth hand) ends room

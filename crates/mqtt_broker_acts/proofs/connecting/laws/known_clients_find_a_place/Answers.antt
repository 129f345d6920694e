use Rattle.mqtt_broker_acts.proofs.connecting_lemmas.Fewer.{place_is_left}
use Rattle.mqtt_broker_acts.proofs.connecting.laws.known_clients_find_a_place.Goals as goal

pub returns : goal.returns
returns c = place_is_left

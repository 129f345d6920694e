use Rattle.mqtt_routes.proofs.routing_lemmas.TakerLemmas.{routed_wanted}
use Rattle.mqtt_routes.proofs.routing.laws.takers_are_told.Goals as goal

pub returns : goal.returns
returns c = routed_wanted

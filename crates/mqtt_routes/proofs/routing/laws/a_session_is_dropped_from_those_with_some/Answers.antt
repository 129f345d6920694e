use Rattle.mqtt_routes.proofs.routing_lemmas.SomeLemmas.{some_dropped}
use Rattle.mqtt_routes.proofs.routing.laws.a_session_is_dropped_from_those_with_some.Goals as goal

pub returns : goal.returns
returns c = some_dropped

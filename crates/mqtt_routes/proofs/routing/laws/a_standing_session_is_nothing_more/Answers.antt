use Rattle.mqtt_routes.proofs.routing_lemmas.SomeLemmas.{some_standing}
use Rattle.mqtt_routes.proofs.routing.laws.a_standing_session_is_nothing_more.Goals as goal

pub returns : goal.returns
returns c = some_standing

use Rattle.mqtt_routes.proofs.routing_lemmas.SomeLemmas.{alike}
use Rattle.mqtt_routes.proofs.routing.laws.empty_sessions_change_nothing.Goals as goal

pub returns : goal.returns
returns c = alike

use Rattle.mqtt_routes.proofs.routing_lemmas.ServeLemmas.{SoFar}
use Rattle.mqtt_routes.proofs.routing.serve.serve.Given as goal

abbrev pub invariant-loop-i : goal.invariant-loop-i
invariant-loop-i g l = SoFar (g.S.Sessions.answers l.at) l.publication l.members l.direct l.i l.served.items

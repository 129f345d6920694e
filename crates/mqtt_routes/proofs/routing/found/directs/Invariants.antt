-- What the copies are once those to come are served is what they are to be.
use Rattle.std.proofs.Common.{◌≡◌, [], drop}
use Rattle.mqtt_routes.proofs.routing_lemmas.DirectLemmas.{with_found}
use Rattle.mqtt_routes.proofs.routing.found.directs.Given as goal

abbrev pub invariant-loop-one : goal.invariant-loop-one
invariant-loop-one g l = with_found (g.S.Sessions.answers l.at) l.publication l.copies.items (drop l.one-index l.found) ≡ with_found (g.S.Sessions.answers l.at) l.publication [] l.found

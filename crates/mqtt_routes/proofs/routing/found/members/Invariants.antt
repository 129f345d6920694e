-- What the members are once those to come are looked at is what they are to be.
use Rattle.std.proofs.Common.{◌≡◌, [], drop}
use Rattle.mqtt_routes.proofs.routing_lemmas.FoundLemmas.{members_found}
use Rattle.mqtt_routes.proofs.routing.found.members.Given as goal

abbrev pub invariant-loop-one : goal.invariant-loop-one
invariant-loop-one l = members_found (drop l.one-index l.found) l.members.items ≡ members_found l.found []

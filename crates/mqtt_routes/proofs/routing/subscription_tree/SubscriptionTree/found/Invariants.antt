-- What was found, and what stands at the spots to come, is what stands at all.
use Rattle.std.proofs.Common.{◌≡◌, ◌++◌, drop}
use Rattle.mqtt_routes.proofs.routing_lemmas.FoundLemmas.{found_all}
use Rattle.mqtt_routes.proofs.routing.subscription_tree.SubscriptionTree.found.Given as goal

abbrev pub invariant-loop-spot : goal.invariant-loop-spot
invariant-loop-spot l = l.found.items ++ found_all l.self.sessions (drop l.spot-index l.spot-items) ≡ found_all l.self.sessions l.spot-items

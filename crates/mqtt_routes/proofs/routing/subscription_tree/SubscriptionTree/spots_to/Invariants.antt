-- The spots of what was looked at so far are there.
use Rattle.std.proofs.Common.{◌≡◌, take}
use Rattle.mqtt_routes.proofs.routing_lemmas.TopicLemmas.{spots_at}
use Rattle.mqtt_routes.proofs.routing.subscription_tree.SubscriptionTree.spots_to.Given as goal

abbrev pub invariant-loop-number : goal.invariant-loop-number
invariant-loop-number l = l.spots.items ≡ spots_at l.self.spots (take l.number-index l.number-items)

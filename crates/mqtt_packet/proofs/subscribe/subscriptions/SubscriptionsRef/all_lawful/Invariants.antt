use Rattle.std.proofs.Common.{◌≡◌, length}
use Rattle.std.specs.List.{list_all}
use Rattle.mqtt_packet.specs.subscribe.Subscriptions.{lawful_subscription}
use Rattle.mqtt_packet.proofs.subscribe.subscriptions.SubscriptionsRef.all_lawful.Given as goal

abbrev pub invariant-loop-first : goal.invariant-loop-first
invariant-loop-first l = list_all lawful_subscription l.rest ≡ list_all lawful_subscription l.self

abbrev pub decreases-loop-first : goal.decreases-loop-first
decreases-loop-first l = length l.rest

use Rattle.std.proofs.Common.{◌≡◌, ◌++◌}
use Rattle.mqtt_broker_looks.specs.at_hand.Hand.{by_place}
use Rattle.mqtt_broker_looks.proofs.at_hand.contents.with_places.Given as goal

abbrev pub invariant-loop-content : goal.invariant-loop-content
invariant-loop-content l = l.entries.items ++ by_place l.content-iterator.rest.items ≡ by_place l.fn.contents.items

-- Those so far, and those of the rest, are all that are held.
use Rattle.std.proofs.Common.{◌≡◌, ◌++◌, length}
use Rattle.mqtt_broker_acts.specs.subscribing.Dropping.{held}
use Rattle.mqtt_broker_acts.proofs.subscribing.dropping.held.Given as goal

abbrev pub invariant-loop-filter : goal.invariant-loop-filter
invariant-loop-filter l = l.all.items ++ held l.rest l.session ≡ held l.filters l.session

abbrev pub decreases-loop-filter : goal.decreases-loop-filter
decreases-loop-filter l = length l.rest

-- The places that were added and those of the rest are all.
use Rattle.std.proofs.Common.{◌≡◌, ◌++◌, map, length}
use Rattle.mqtt_records.specs.state.Session.{place_of}
use Rattle.mqtt_keep.proofs.lawful.session.push_places.Given as goal

abbrev pub invariant-loop-subscription : goal.invariant-loop-subscription
invariant-loop-subscription l = l.places.items ++ map place_of l.rest ≡ l.fn.places.items ++ map place_of l.subscriptions

abbrev pub decreases-loop-subscription : goal.decreases-loop-subscription
decreases-loop-subscription l = length l.rest

-- The places so far, and those of the contents that are left, are all places.
use Rattle.std.proofs.Common.{◌≡◌, ◌++◌, drop}
use Rattle.mqtt_rules.specs.filling.Entered.{places_of}
use Rattle.mqtt_broker.proofs.stored.pumping.places_of.Given as goal

abbrev pub invariant-loop-content : goal.invariant-loop-content
invariant-loop-content l = l.places.items ++ places_of (drop l.content-index l.contents) ≡ places_of l.contents

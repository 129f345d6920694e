-- What is slim so far, and the places that are left, are all places.
use Rattle.std.proofs.Common.{◌≡◌, drop}
use Rattle.mqtt_keep.specs.by_name.Slimming.{slim_places}
use Rattle.mqtt_keep.proofs.by_name.named.NamedRecords.make_slim.Given as goal

abbrev pub invariant-loop-place : goal.invariant-loop-place
invariant-loop-place l = slim_places l.birth (drop l.place-index l.places) l.self ≡ slim_places l.birth l.places l.fn.self

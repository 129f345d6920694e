use Rattle.std.proofs.Common.{◌≡◌, take, None}
use Rattle.mqtt_world_ends.specs.strangers.Strangers.{named}
use Rattle.mqtt_world_ends.proofs.strangers.strangers.place_of.Given as goal

abbrev pub invariant-loop-place : goal.invariant-loop-place
invariant-loop-place l = named l.name (take l.place l.all) ≡ None

-- So many have moved.
use Rattle.std.proofs.Common.{◌≡◌, ◌++◌, drop, map, take}
use Rattle.mqtt_routes.specs.routing.Spots.{moved_down}
use Rattle.mqtt_routes.proofs.routing.spot.move_down.Given as goal

abbrev pub invariant-loop-i : goal.invariant-loop-i
invariant-loop-i l = l.spots.items ≡ map (moved_down l.birth l.at) (take l.i l.fn.spots.items) ++ drop l.i l.fn.spots.items

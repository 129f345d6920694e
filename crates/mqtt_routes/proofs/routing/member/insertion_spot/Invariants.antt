use Rattle.std.proofs.Common.{◌≡◌, ◌+◌, drop}
use Rattle.mqtt_routes.specs.routing.Intended.{insertion_spot}
use Rattle.mqtt_routes.proofs.routing.member.insertion_spot.Given as goal

abbrev pub invariant-loop-i : goal.invariant-loop-i
invariant-loop-i l = l.i + insertion_spot l.place (drop l.i l.members) ≡ insertion_spot l.place l.members

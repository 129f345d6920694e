use Rattle.std.proofs.Common.{◌≡◌, drop}
use Rattle.std.specs.List.{list_any}
use Rattle.mqtt_routes.specs.routing.Intended.{in_group}
use Rattle.mqtt_routes.specs.routing.Acceptance.{needs_room}
use Rattle.mqtt_routes.proofs.routing.serve.group_needs_room.Given as goal

abbrev pub invariant-loop-member : goal.invariant-loop-member
invariant-loop-member l = list_any (needs_room l.publication) (in_group l.filter (drop l.member-index l.members)) ≡ list_any (needs_room l.publication) (in_group l.filter l.members)

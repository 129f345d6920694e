use Rattle.std.proofs.Common.{◌≡◌, drop}
use Rattle.std.specs.List.{list_all}
use Rattle.mqtt_routes.specs.routing.Acceptance.{has_room}
use Rattle.mqtt_routes.proofs.routing.serve.has_room.Given as goal

abbrev pub invariant-loop-copy : goal.invariant-loop-copy
invariant-loop-copy g l = list_all (has_room (g.S.Sessions.answers l.at)) (drop l.copy-index l.copies) ≡ list_all (has_room (g.S.Sessions.answers l.at)) l.copies

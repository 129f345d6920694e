use Rattle.std.proofs.Common.{◌≡◌, drop}
use Rattle.mqtt_routes.specs.routing.Acceptance.{eligible_of}
use Rattle.mqtt_routes.proofs.routing.serve.first_candidate.Given as goal

abbrev pub invariant-loop-i : goal.invariant-loop-i
invariant-loop-i g l =
    eligible_of (g.S.Sessions.answers l.at) l.publication l.direct l.served l.filter (drop l.i l.members) ≡ eligible_of (g.S.Sessions.answers l.at) l.publication l.direct l.served l.filter l.members

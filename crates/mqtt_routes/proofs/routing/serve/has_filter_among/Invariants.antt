use Rattle.std.proofs.Common.{◌≡◌, drop}
use Rattle.mqtt_routes.specs.routing.Intended.{has_filter_among}
use Rattle.mqtt_routes.proofs.routing.serve.has_filter_among.Given as goal

abbrev pub invariant-loop-member : goal.invariant-loop-member
invariant-loop-member l = has_filter_among l.filter (drop l.member-index l.members) ≡ has_filter_among l.filter l.members

use Rattle.std.proofs.Common.{◌≡◌, max, drop}
use Rattle.mqtt_flow.specs.outbound.Queue.{greatest_place}
use Rattle.mqtt_flow.proofs.outbound.plan.greatest_place.Given as goal

abbrev pub invariant-loop-entry : goal.invariant-loop-entry
invariant-loop-entry l = max l.greatest (greatest_place (drop l.entry-index l.entries)) ≡ greatest_place l.entries

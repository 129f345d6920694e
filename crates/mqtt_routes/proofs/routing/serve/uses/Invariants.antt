use Rattle.std.proofs.Common.{◌≡◌, ◌+◌, ◌≤◌, drop}
use Rattle.mqtt_routes.specs.routing.Acceptance.{uses}
use Rattle.mqtt_routes.proofs.routing.serve.uses.Given as goal

abbrev pub invariant-loop-copy : goal.invariant-loop-copy
invariant-loop-copy l = record {
  counted : l.count + uses l.birth (drop l.copy-index l.copies) ≡ uses l.birth l.copies;
  within : l.count ≤ l.copy-index;
}

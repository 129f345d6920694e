use Rattle.std.proofs.Common.{◌≡◌, ◌+◌, ◌≤◌, drop}
use Rattle.mqtt_routes.specs.routing.Acceptance.{uses, copies_of}
use Rattle.mqtt_routes.proofs.routing.serve.uses_served.Given as goal

abbrev pub invariant-loop-one : goal.invariant-loop-one
invariant-loop-one l = record {
  counted : l.count + uses l.birth (copies_of (drop l.one-index l.served)) ≡ uses l.birth (copies_of l.served);
  within : l.count ≤ l.one-index;
}

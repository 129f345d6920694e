use Rattle.std.proofs.Common.{◌≡◌, ◌+◌, ◌≤◌, map, drop}
use Rattle.mqtt_flow.specs.outbound.Stillness.{front_still}
use Rattle.mqtt_flow.proofs.outbound.still.front_still.Given as goal

abbrev pub invariant-loop-row : goal.invariant-loop-row
invariant-loop-row g l = record {
  counted : l.still + front_still (map (g.V.QueueView.entry l.view) (drop l.row-index l.rows)) ≡ front_still (map (g.V.QueueView.entry l.view) l.rows);
  within : l.still ≤ l.row-index;
}

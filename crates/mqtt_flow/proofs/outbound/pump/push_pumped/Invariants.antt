use Rattle.std.proofs.Common.{◌≡◌, ◌+◌, ◌≤◌, ◌++◌, length, map, drop}
use Rattle.mqtt_flow.specs.outbound.Outbound.{pump_from}
use Rattle.mqtt_flow.proofs.outbound.pump.push_pumped.Given as goal

abbrev pub invariant-loop-row : goal.invariant-loop-row
invariant-loop-row g l = record {
  sent : l.turns.items ++ pump_from l.way (map (g.V.QueueView.entry l.view) (drop l.row-index l.rows)) l.pace ≡ l.fn.turns.items ++ pump_from l.way (map (g.V.QueueView.entry l.view) l.rows) l.fn.pace;
  used : length l.pace.used ≤ length l.fn.pace.used + l.row-index;
  order : l.pace.order ≤ l.fn.pace.order + l.row-index;
}

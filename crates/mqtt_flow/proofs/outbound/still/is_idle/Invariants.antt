use Rattle.std.proofs.Common.{◌≡◌, ◌+◌, ◌≤◌, map, drop}
use Rattle.mqtt_flow.specs.outbound.Queue.{in_window}
use Rattle.mqtt_flow.specs.outbound.Outbound.{pace, pump, pump_from}
use Rattle.mqtt_flow.proofs.outbound.still.is_idle.Given as goal

abbrev pub invariant-loop-row : goal.invariant-loop-row
invariant-loop-row g l = record {
  passed : pump_from l.way (map (g.V.QueueView.entry l.view) (drop l.row-index l.rows)) (pace l.way (map (g.V.QueueView.entry l.view) l.rows)) ≡ pump l.way (map (g.V.QueueView.entry l.view) l.rows);
  counted : l.window + in_window (map (g.V.QueueView.entry l.view) (drop l.row-index l.rows)) ≡ in_window (map (g.V.QueueView.entry l.view) l.rows);
  within : l.window ≤ l.row-index;
}

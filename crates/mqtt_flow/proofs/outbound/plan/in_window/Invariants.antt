use Rattle.std.proofs.Common.{◌≡◌, ◌+◌, ◌≤◌, map, drop}
use Rattle.mqtt_flow.specs.outbound.Queue.{in_window}
use Rattle.mqtt_flow.proofs.outbound.plan.in_window.Given as goal

abbrev pub invariant-loop-row : goal.invariant-loop-row
invariant-loop-row g l = record { counted : l.count + in_window (map (g.V.QueueView.entry l.view) (drop l.row-index l.rows)) ≡ in_window (map (g.V.QueueView.entry l.view) l.rows); within : l.count ≤ l.row-index }

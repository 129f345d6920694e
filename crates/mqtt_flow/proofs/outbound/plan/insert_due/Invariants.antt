use Rattle.std.proofs.Common.{◌≡◌, map, drop}
use Rattle.mqtt_flow.specs.outbound.Outbound.{due_from}
use Rattle.mqtt_flow.proofs.outbound.plan.insert_due.Given as goal

abbrev pub invariant-loop-row : goal.invariant-loop-row
invariant-loop-row g l = (view : _) → due_from l.dues.items (map (g.V.QueueView.entry view) (drop l.row-index l.rows)) ≡ due_from l.fn.dues.items (map (g.V.QueueView.entry view) l.rows)

use Rattle.std.proofs.Common.{◌≡◌, max, map, drop}
use Rattle.mqtt_flow.specs.outbound.Queue.{greatest_order}
use Rattle.mqtt_flow.proofs.outbound.plan.greatest_order.Given as goal

abbrev pub invariant-loop-row : goal.invariant-loop-row
invariant-loop-row g l = (view : _) → max l.greatest (greatest_order (map (g.V.QueueView.entry view) (drop l.row-index l.rows))) ≡ greatest_order (map (g.V.QueueView.entry view) l.rows)

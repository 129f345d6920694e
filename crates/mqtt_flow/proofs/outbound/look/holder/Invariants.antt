use Rattle.std.proofs.Common.{◌≡◌, map, drop}
use Rattle.mqtt_flow.specs.outbound.Queue.{holder}
use Rattle.mqtt_flow.proofs.outbound.look.holder.Given as goal

abbrev pub invariant-loop-row : goal.invariant-loop-row
invariant-loop-row g l = (view : _) → holder l.identifier (map (g.V.QueueView.entry view) (drop l.row-index l.rows)) ≡ holder l.identifier (map (g.V.QueueView.entry view) l.rows)

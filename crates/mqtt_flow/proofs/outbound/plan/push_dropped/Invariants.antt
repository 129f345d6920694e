use Rattle.std.proofs.Common.{◌≡◌, ◌++◌, map, drop}
use Rattle.mqtt_flow.specs.outbound.Outbound.{dropped}
use Rattle.mqtt_flow.proofs.outbound.plan.push_dropped.Given as goal

abbrev pub invariant-loop-row : goal.invariant-loop-row
invariant-loop-row g l = (view : _) → l.turns.items ++ dropped l.left l.since (map (g.V.QueueView.entry view) (drop l.row-index l.rows)) ≡ l.fn.turns.items ++ dropped l.fn.count l.since (map (g.V.QueueView.entry view) l.rows)

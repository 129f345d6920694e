use Rattle.std.proofs.Common.{◌≡◌, ◌++◌, map, drop}
use Rattle.mqtt_flow.specs.outbound.Outbound.{expired}
use Rattle.mqtt_flow.proofs.outbound.plan.push_expired.Given as goal

abbrev pub invariant-loop-row : goal.invariant-loop-row
invariant-loop-row g l = (view : _) → l.turns.items ++ expired l.now (map (g.V.QueueView.entry view) (drop l.row-index l.rows)) ≡ l.fn.turns.items ++ expired l.now (map (g.V.QueueView.entry view) l.rows)

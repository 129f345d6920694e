use Rattle.std.proofs.Common.{◌≡◌, ◌++◌, map, drop}
use Rattle.mqtt_flow.specs.outbound.Queue.{identifiers}
use Rattle.mqtt_flow.proofs.outbound.in_use.push_identifiers.Given as goal

abbrev pub invariant-loop-row : goal.invariant-loop-row
invariant-loop-row g l = (view : _) → l.used.items ++ identifiers (map (g.V.QueueView.entry view) (drop l.row-index l.rows)) ≡ l.fn.used.items ++ identifiers (map (g.V.QueueView.entry view) l.rows)

use Rattle.std.proofs.Common.{◌≡◌, ◌+◌, ◌≤◌, map, drop}
use Rattle.mqtt_flow.specs.declared.outbound.entry.Full.TheVariants.{Drop}
use Rattle.mqtt_flow.specs.outbound.Outbound.{staying}
use Rattle.mqtt_flow.proofs.outbound.plan.staying.Given as goal

abbrev pub invariant-loop-row : goal.invariant-loop-row
invariant-loop-row g l = record {
  counted : (view : _) → l.count + staying Drop l.since (map (g.V.QueueView.entry view) (drop l.row-index l.rows)) ≡ staying Drop l.since (map (g.V.QueueView.entry view) l.rows);
  within : l.count ≤ l.row-index;
}

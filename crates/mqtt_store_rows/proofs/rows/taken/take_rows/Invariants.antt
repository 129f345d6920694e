use Rattle.std.proofs.Common.{◌≡◌, ◌++◌, length}
use Rattle.mqtt_store_rows.specs.values.Lists.{AllOf}
use Rattle.mqtt_store_rows.proofs.rows.taken.take_rows.Given as goal

abbrev pub invariant-loop-row : goal.invariant-loop-row
invariant-loop-row l = record {
  parts : l.fn.rows.items ≡ l.part.items ++ l.rows.items;
  mine : AllOf l.birth l.part.items;
}

abbrev pub decreases-loop-row : goal.decreases-loop-row
decreases-loop-row l = length l.rows.items

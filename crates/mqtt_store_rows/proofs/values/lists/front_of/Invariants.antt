use Rattle.std.proofs.Common.{◌≤◌, ◌-◌, take, length}
use Rattle.mqtt_store_rows.specs.values.Lists.{AllOf}
use Rattle.mqtt_store_rows.proofs.values.lists.front_of.Given as goal

abbrev pub invariant-loop-count : goal.invariant-loop-count
invariant-loop-count l = record {
  within : l.count ≤ length l.rows;
  all : AllOf l.birth (take l.count l.rows);
}

abbrev pub decreases-loop-count : goal.decreases-loop-count
decreases-loop-count l = length l.rows - l.count

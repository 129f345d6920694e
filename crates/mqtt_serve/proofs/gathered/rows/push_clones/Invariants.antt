use Rattle.std.proofs.Common.{◌≡◌, ◌++◌, filter, take}
use Rattle.mqtt_serve.specs.gathered.Counting.{changes_rows}
use Rattle.mqtt_serve.proofs.gathered.rows.push_clones.Given as goal

-- behind the list stand the rows of the changes so far
abbrev pub invariant-loop-change : goal.invariant-loop-change
invariant-loop-change l = l.list.items ≡ l.initial.list.items ++ filter changes_rows (take l.change-index l.changes)

use Rattle.std.proofs.Common.{◌≡◌, ◌++◌, map, take, drop}
use Rattle.mqtt_records.proofs.lists.rows.slim_all.Given as goal

abbrev pub invariant-loop-row : goal.invariant-loop-row
invariant-loop-row g l = l.rows ≡ map g.R.Slimmable.slimmed (take l.row-index l.fn.rows) ++ drop l.row-index l.fn.rows

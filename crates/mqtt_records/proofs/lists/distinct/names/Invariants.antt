-- The names of the rows that were passed stand in the list.
use Rattle.std.proofs.Common.{◌≡◌, map, take}
use Rattle.mqtt_records.proofs.lists.distinct.names.Given as goal

abbrev pub invariant-loop-row : goal.invariant-loop-row
invariant-loop-row g l = map (λ name. name.now) l.names.items ≡ map g.R.Named.name_of (take l.row-index l.rows)

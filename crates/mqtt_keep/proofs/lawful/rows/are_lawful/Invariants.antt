-- The rest keeps its rules exactly if all do.
use Rattle.std.proofs.Common.{◌↔◌, length}
use Rattle.std.specs.List.{AllByRecursion}
use Rattle.mqtt_keep.proofs.lawful.rows.are_lawful.Given as goal

abbrev pub invariant-loop-row : goal.invariant-loop-row
invariant-loop-row g l =
    AllByRecursion (g.R.Lawful.is_lawful_within l.within) l.rest ↔ AllByRecursion (g.R.Lawful.is_lawful_within l.within) l.rows

abbrev pub decreases-loop-row : goal.decreases-loop-row
decreases-loop-row g l = length l.rest

-- The rest are from 1 exactly if all are.
use Rattle.std.proofs.Common.{◌↔◌, ◌≤◌, length}
use Rattle.std.specs.List.{AllByRecursion}
use Rattle.mqtt_keep.proofs.lawful.session.are_open.Given as goal

abbrev pub invariant-loop-identifier : goal.invariant-loop-identifier
invariant-loop-identifier l = AllByRecursion (λ identifier. 1 ≤ identifier) l.rest ↔ AllByRecursion (λ identifier. 1 ≤ identifier) l.identifiers

abbrev pub decreases-loop-identifier : goal.decreases-loop-identifier
decreases-loop-identifier l = length l.rest

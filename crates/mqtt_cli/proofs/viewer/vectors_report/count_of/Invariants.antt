-- Those counted and those to come are all that are right.
use Rattle.std.proofs.Common.{◌≡◌, ◌+◌, ◌≤◌, length}
use Rattle.mqtt_cli.specs.viewer.Vectors.{how_many}
use Rattle.mqtt_cli.proofs.viewer.vectors_report.count_of.Given as goal

abbrev pub invariant-loop-is_right : goal.invariant-loop-is_right
invariant-loop-is_right l = (l.count + how_many l.rest ≡ how_many l.rights) × (l.count + length l.rest ≤ length l.rights)

abbrev pub decreases-loop-is_right : goal.decreases-loop-is_right
decreases-loop-is_right l = length l.rest

-- What is left of the filter matches what is left of the name if they match as a whole.
use Rattle.std.proofs.Common.{◌≡◌, length}
use Rattle.mqtt_topic.specs.names.Matching.{matches_levels}
use Rattle.mqtt_routes.specs.tree.Tree.{levels_behind}
use Rattle.mqtt_routes.proofs.tree.level.matches_behind.Given as goal

abbrev pub invariant-loop-level : goal.invariant-loop-level
invariant-loop-level l = matches_levels (levels_behind l.reached l.filter) (levels_behind l.taken l.name) ≡ matches_levels (levels_behind l.fn.end l.filter) (levels_behind l.fn.at l.name)

abbrev pub decreases-loop-level : goal.decreases-loop-level
decreases-loop-level l = length (levels_behind l.reached l.filter)

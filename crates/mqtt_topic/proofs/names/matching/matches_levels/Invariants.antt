use Rattle.std.proofs.Common.{◌≡◌, length}
use Rattle.mqtt_topic.specs.names.Levels.{levels}
use Rattle.mqtt_topic.specs.names.Matching.{matches_levels}
use Rattle.mqtt_topic.proofs.names.matching.matches_levels.Given as goal

abbrev pub invariant-loop-level : goal.invariant-loop-level
invariant-loop-level l = matches_levels l.filters l.names ≡ matches_levels (levels l.filter) (levels l.name)

abbrev pub decreases-loop-level : goal.decreases-loop-level
decreases-loop-level l = length l.filters

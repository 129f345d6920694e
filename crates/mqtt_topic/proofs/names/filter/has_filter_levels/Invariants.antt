use Rattle.std.proofs.Common.{◌≡◌, length}
use Rattle.mqtt_topic.specs.names.Levels.{levels}
use Rattle.mqtt_topic.specs.names.Filters.{are_filter_levels}
use Rattle.mqtt_topic.proofs.names.filter.has_filter_levels.Given as goal

abbrev pub invariant-loop-level : goal.invariant-loop-level
invariant-loop-level l = are_filter_levels l.levels ≡ are_filter_levels (levels l.text)

abbrev pub decreases-loop-level : goal.decreases-loop-level
decreases-loop-level l = length l.levels

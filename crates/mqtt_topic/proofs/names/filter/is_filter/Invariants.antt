use Rattle.std.proofs.Common.{◌≡◌, length}
use denote.Text.{Utf8}
use denote.Shadow.{shadow}
use Rattle.mqtt_topic.specs.names.Filters.{is_filter}
use Rattle.mqtt_topic.proofs.names.filter.is_filter.Given as goal

abbrev pub invariant-loop-group : goal.invariant-loop-group
invariant-loop-group l = shadow (Utf8 l.filter) × (is_filter l.filter ≡ is_filter l.text)

abbrev pub decreases-loop-group : goal.decreases-loop-group
decreases-loop-group l = length l.filter

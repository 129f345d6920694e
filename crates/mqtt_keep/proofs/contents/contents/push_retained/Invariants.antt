-- What was added and what the rest say is all.
use Rattle.std.proofs.Common.{◌≡◌, ◌++◌, map, length}
use Rattle.mqtt_records.specs.state.Contents.{retained_message}
use Rattle.mqtt_keep.specs.contents.Listed.{said}
use Rattle.mqtt_keep.proofs.contents.contents.push_retained.Given as goal

abbrev pub invariant-loop-kept : goal.invariant-loop-kept
invariant-loop-kept l = map said l.messages.items ++ map retained_message l.rest ≡ map said l.fn.messages.items ++ map retained_message l.retained

abbrev pub decreases-loop-kept : goal.decreases-loop-kept
decreases-loop-kept l = length l.rest

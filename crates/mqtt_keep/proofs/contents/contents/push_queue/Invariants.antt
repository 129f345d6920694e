-- What was added and what the rest say is all.
use Rattle.std.proofs.Common.{◌≡◌, ◌++◌, map, length}
use Rattle.mqtt_records.specs.state.Contents.{copy_message}
use Rattle.mqtt_keep.specs.contents.Listed.{said}
use Rattle.mqtt_keep.proofs.contents.contents.push_queue.Given as goal

abbrev pub invariant-loop-row : goal.invariant-loop-row
invariant-loop-row l = map said l.messages.items ++ map copy_message l.rest ≡ map said l.fn.messages.items ++ map copy_message l.queue

abbrev pub decreases-loop-row : goal.decreases-loop-row
decreases-loop-row l = length l.rest

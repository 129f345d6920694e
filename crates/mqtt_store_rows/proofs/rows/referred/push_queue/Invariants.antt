use Rattle.std.proofs.Common.{◌≡◌, ◌++◌, map, length}
use Rattle.mqtt_store_rows.specs.rows.Gives.{copy_number}
use Rattle.mqtt_store_rows.proofs.rows.referred.push_queue.Given as goal

abbrev pub invariant-loop-copy : goal.invariant-loop-copy
invariant-loop-copy l = l.numbers.items ++ map copy_number l.rest ≡ l.fn.numbers.items ++ map copy_number l.queue

abbrev pub decreases-loop-copy : goal.decreases-loop-copy
decreases-loop-copy l = length l.rest

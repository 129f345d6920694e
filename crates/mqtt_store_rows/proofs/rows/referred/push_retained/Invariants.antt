use Rattle.std.proofs.Common.{◌≡◌, ◌++◌, map, length}
use Rattle.mqtt_store_rows.specs.rows.Gives.{kept_number}
use Rattle.mqtt_store_rows.proofs.rows.referred.push_retained.Given as goal

abbrev pub invariant-loop-kept : goal.invariant-loop-kept
invariant-loop-kept l = l.numbers.items ++ map kept_number l.rest ≡ l.fn.numbers.items ++ map kept_number l.retained

abbrev pub decreases-loop-kept : goal.decreases-loop-kept
decreases-loop-kept l = length l.rest

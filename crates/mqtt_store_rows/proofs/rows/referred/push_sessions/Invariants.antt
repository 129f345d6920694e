use Rattle.std.proofs.Common.{◌≡◌, ◌++◌, length}
use Rattle.std.specs.List.{flat_map}
use Rattle.mqtt_store_rows.specs.rows.Gives.{queue_numbers}
use Rattle.mqtt_store_rows.proofs.rows.referred.push_sessions.Given as goal

abbrev pub invariant-loop-session : goal.invariant-loop-session
invariant-loop-session l = l.numbers.items ++ flat_map queue_numbers l.rest ≡ l.fn.numbers.items ++ flat_map queue_numbers l.sessions

abbrev pub decreases-loop-session : goal.decreases-loop-session
decreases-loop-session l = length l.rest

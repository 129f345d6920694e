-- What was looked at is quiet before the least moment so far.
use Rattle.std.proofs.Common.{◌≡◌, ℕ, ◌<◌, false, length}
use Rattle.std.specs.List.{AllByRecursion}
use Rattle.mqtt_broker_acts.specs.clock.Quiet.{IsFresh, IsQuiet}
use Rattle.mqtt_broker_acts.proofs.clock.quiet.queue_before.Given as goal

abbrev pub invariant-loop-row : goal.invariant-loop-row
invariant-loop-row l = (now : ℕ) → now < l.least → AllByRecursion (IsFresh now) l.rest → AllByRecursion (IsFresh now) l.queue

abbrev pub decreases-loop-row : goal.decreases-loop-row
decreases-loop-row l = length l.rest

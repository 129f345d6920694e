-- What was looked at is quiet before the least moment so far.
use Rattle.std.proofs.Common.{◌≡◌, ℕ, ◌<◌, false, length}
use Rattle.std.specs.List.{AllByRecursion}
use Rattle.mqtt_broker_acts.specs.clock.Quiet.{IsFresh, IsQuiet}
use Rattle.mqtt_broker_acts.proofs.clock.quiet.sessions_before.Given as goal

abbrev pub invariant-loop-session : goal.invariant-loop-session
invariant-loop-session l = (now : ℕ) → now < l.least → AllByRecursion (IsQuiet now) l.rest → AllByRecursion (IsQuiet now) l.sessions

abbrev pub decreases-loop-session : goal.decreases-loop-session
decreases-loop-session l = length l.rest

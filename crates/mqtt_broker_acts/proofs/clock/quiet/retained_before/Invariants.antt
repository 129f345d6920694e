-- What was looked at is quiet before the least moment so far.
use Rattle.std.proofs.Common.{◌≡◌, ℕ, ◌<◌, false, length}
use Rattle.std.specs.List.{AllByRecursion}
use Rattle.mqtt_rules.specs.step.Tick.{is_stale}
use Rattle.mqtt_broker_acts.specs.clock.Quiet.{IsFresh, IsQuiet}
use Rattle.mqtt_broker_acts.proofs.clock.quiet.retained_before.Given as goal

abbrev pub invariant-loop-kept : goal.invariant-loop-kept
invariant-loop-kept l = (now : ℕ) → now < l.least → AllByRecursion (λ k. is_stale now k ≡ false) l.rest → AllByRecursion (λ k. is_stale now k ≡ false) l.retained

abbrev pub decreases-loop-kept : goal.decreases-loop-kept
decreases-loop-kept l = length l.rest

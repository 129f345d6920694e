-- The changes looked at bring nothing before the least moment so far, which is no later than the first.
use Rattle.std.proofs.Common.{ℕ, ◌<◌, length}
use Rattle.std.specs.List.{AllByRecursion}
use Rattle.mqtt_broker_acts.specs.clock.Quiet.{BringsNothing}
use Rattle.mqtt_broker_acts.proofs.clock.quiet.quiet_after.Given as goal

abbrev pub invariant-loop-change : goal.invariant-loop-change
invariant-loop-change l = (now : ℕ) → now < l.least → (now < l.quiet) × (AllByRecursion (BringsNothing now l.step.broker.records) l.rest → AllByRecursion (BringsNothing now l.step.broker.records) l.step.rows)

abbrev pub decreases-loop-change : goal.decreases-loop-change
decreases-loop-change l = length l.rest

-- With those that are left, all have ended.
use Rattle.std.proofs.Common.{◌≡◌, length}
use Rattle.mqtt_broker.specs.engine.Serving.{ended}
use Rattle.mqtt_broker.proofs.engine.held.end_each.Given as goal

abbrev pub invariant-loop-line : goal.invariant-loop-line
invariant-loop-line l = ended l.rest l.framers ≡ ended l.fn.closed l.fn.framers

abbrev pub decreases-loop-line : goal.decreases-loop-line
decreases-loop-line l = length l.rest

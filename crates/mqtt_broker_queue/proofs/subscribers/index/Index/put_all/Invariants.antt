-- Who is given the rest has been given the whole, and can be given the rest.
use Rattle.std.proofs.Common.{◌≡◌, length}
use Rattle.mqtt_broker_queue.specs.subscribers.Following.{CanBeGiven, given}
use Rattle.mqtt_broker_queue.proofs.subscribers.index.Index.put_all.Given as goal

abbrev pub invariant-loop-subscription : goal.invariant-loop-subscription
invariant-loop-subscription l = (given l.birth l.rest l.self.sessions ≡ given l.birth l.fn.all l.fn.self.sessions) × CanBeGiven l.birth l.rest l.self.sessions

abbrev pub decreases-loop-subscription : goal.decreases-loop-subscription
decreases-loop-subscription l = length l.rest

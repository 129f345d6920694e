-- Who is given the rest has been given the whole, and can be given the rest.
use Rattle.std.proofs.Common.{◌≡◌, length}
use Rattle.mqtt_broker_queue.specs.subscribers.Following.{CanAllBeGiven, given_all}
use Rattle.mqtt_broker_queue.proofs.subscribers.index.Index.put_sessions.Given as goal

abbrev pub invariant-loop-session : goal.invariant-loop-session
invariant-loop-session l = (given_all l.rest l.self.sessions ≡ given_all l.fn.all l.fn.self.sessions) × CanAllBeGiven l.rest l.self.sessions

abbrev pub decreases-loop-session : goal.decreases-loop-session
decreases-loop-session l = length l.rest

-- Who goes along with the rest has gone along with the whole, and can go along with the rest.
use Rattle.std.proofs.Common.{◌≡◌, length}
use Rattle.mqtt_broker_queue.specs.subscribers.Following.{CanGoAlongAll, followed_all}
use Rattle.mqtt_broker_queue.proofs.subscribers.index.Index.go_along_all.Given as goal

abbrev pub invariant-loop-change : goal.invariant-loop-change
invariant-loop-change l = (followed_all l.rest l.self.sessions ≡ followed_all l.fn.changes l.fn.self.sessions) × CanGoAlongAll l.rest l.self.sessions

abbrev pub decreases-loop-change : goal.decreases-loop-change
decreases-loop-change l = length l.rest

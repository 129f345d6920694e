use Rattle.std.proofs.Common.{◌≡◌, length}
use Rattle.mqtt_world_model.specs.model.Ends.{send_all}
use Rattle.mqtt_world_ends.proofs.peers.publisher.PublisherEnd.send_all.Given as goal

abbrev pub invariant-loop-self : goal.invariant-loop-self
invariant-loop-self l = send_all l.stands l.self.unsent l.self ≡ send_all l.stands l.fn.self.unsent l.fn.self

abbrev pub decreases-loop-self : goal.decreases-loop-self
decreases-loop-self l = length l.self.unsent

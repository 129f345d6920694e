use Rattle.std.proofs.Common.{ℕ, drop}
use Rattle.mqtt_broker_looks.specs.at_hand.Hand.{at_hand_of}
use Rattle.mqtt_broker_looks.proofs.at_hand_lemmas.Stored.{GoesAlong}
use Rattle.mqtt_broker_looks.proofs.at_hand.hand.AllAtHand.follow.Given as goal

abbrev pub invariant-loop-change : goal.invariant-loop-change
invariant-loop-change l = (birth : ℕ) → GoesAlong birth l.changes (drop l.change-index l.changes) l.is_all (at_hand_of birth l.fn.self) (at_hand_of birth l.self)

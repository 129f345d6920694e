-- Those that were looked at agree, each with the next.
use Rattle.std.specs.List.{AllAdjacentBelow}
use Rattle.mqtt_keep.specs.contents.Listed.{said, Agrees}
use Rattle.mqtt_keep.proofs.contents.contents.neighbours_agree.Given as goal

abbrev pub invariant-loop-at : goal.invariant-loop-at
invariant-loop-at l = AllAdjacentBelow (λ x y. Agrees (said x) (said y)) l.messages l.at

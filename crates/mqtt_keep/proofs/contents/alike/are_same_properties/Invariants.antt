-- The rests are the same exactly if the lists are.
use Rattle.std.proofs.Common.{◌≡◌, ◌↔◌, length}
use Rattle.mqtt_keep.proofs.contents.alike.are_same_properties.Given as goal

abbrev pub invariant-loop-one : goal.invariant-loop-one
invariant-loop-one l = (l.rest ≡ l.left) ↔ (l.these ≡ l.others)

abbrev pub decreases-loop-one : goal.decreases-loop-one
decreases-loop-one l = length l.rest

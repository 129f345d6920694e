use Rattle.std.proofs.Common.{◌≡◌, ◌-◌, length, take}
use Rattle.mqtt_world_ends.proofs.strangers.front.fill.Given as goal

abbrev pub invariant-loop-framer : goal.invariant-loop-framer
invariant-loop-framer l = l.framer.held ≡ take (length l.framer.held) l.bytes

abbrev pub decreases-loop-framer : goal.decreases-loop-framer
decreases-loop-framer l = length l.bytes - length l.framer.held

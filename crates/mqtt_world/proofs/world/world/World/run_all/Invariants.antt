-- The first of the events happened.
use Rattle.std.proofs.Common.{length}
use Rattle.mqtt_world.proofs.world_lemmas.Course.{IsSoFar}
use Rattle.mqtt_world.proofs.world.world.World.run_all.Given as goal

abbrev pub invariant-loop-first : goal.invariant-loop-first
invariant-loop-first g l = IsSoFar g.K.Keep l.events l.fn.self l.tells.items l.rest l.self

abbrev pub decreases-loop-first : goal.decreases-loop-first
decreases-loop-first g l = length l.rest

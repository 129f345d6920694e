-- So many pieces have come, and the rest comes where they led.
use Rattle.std.proofs.Common.{length}
use Rattle.mqtt_world.proofs.world_lemmas.Visited.{ComesOn}
use Rattle.mqtt_world.proofs.world.stage.Stage.pieces.Given as goal

abbrev pub invariant-pieces : goal.invariant-pieces
invariant-pieces g l = ComesOn g.K.Keep l.name l.bytes l.fn.self l.told l.self l.rest

abbrev pub decreases-pieces : goal.decreases-pieces
decreases-pieces g l = length l.rest

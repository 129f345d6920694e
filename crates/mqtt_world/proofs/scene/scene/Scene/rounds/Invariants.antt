-- So many rounds were made, each where the drain was not over.
use Rattle.mqtt_world.specs.scene.Draining.{GoesOn, so_many_rounds}
use Rattle.mqtt_world.proofs.scene.scene.Scene.rounds.Given as goal

abbrev pub invariant-loop-round : goal.invariant-loop-round
invariant-loop-round g l = GoesOn g.K.Keep l.now (so_many_rounds l.client l.round) l.fn.self l.fn.told l.told l.self

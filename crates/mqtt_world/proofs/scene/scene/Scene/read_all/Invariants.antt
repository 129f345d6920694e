-- So many packets were read.
use Rattle.std.proofs.Common.{ℕ}
use Rattle.mqtt_world_model.specs.model.World.{to_end}
use Rattle.mqtt_world.specs.scene.Draining.{GoesOn, so_often}
use Rattle.mqtt_world.proofs.scene.scene.Scene.read_all.Given as goal

abbrev pub invariant-loop : goal.invariant-loop
invariant-loop g l = (now : ℕ) → GoesOn g.K.Keep now (so_often l.counter (to_end l.client)) l.fn.self l.fn.told l.told l.self

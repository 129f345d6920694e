-- So many packets were read.
use Rattle.mqtt_world_model.specs.model.World.{ask, to_broker}
use Rattle.mqtt_world.specs.scene.Draining.{GoesOn, so_often}
use Rattle.mqtt_world.proofs.scene.scene.Scene.answer_all.Given as goal

abbrev pub invariant-loop : goal.invariant-loop
invariant-loop g l = GoesOn g.K.Keep l.now (so_often l.counter (ask (to_broker l.client))) l.fn.self l.fn.told l.told l.self

-- By what it tells, added.
use Rattle.mqtt_world_model.specs.model.World.{ask, pump}
use Rattle.mqtt_world.proofs.script_laws_lemmas.OneTurn.{sends_once}
use Rattle.mqtt_world.proofs.scene_lemmas.Drained.{goes_added}
use Rattle.mqtt_world.proofs.scene.scene.Scene.send.Goals as goal

pub returns : goal.returns
returns g c =
    goes_added g.K.Keep c.args.now (ask (pump c.args.client.now)) c.args.self.now c.ask_pump.new.self c.in_ok-more.more c.args.told.now c.add.new.told
    c.add.result (λ limits u w v h. sends_once limits c.args.client.now u w v h) c.in_ok-more.ensures c.add.ensures

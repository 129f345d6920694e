-- By what it tells, added.
use Rattle.mqtt_world_model.specs.model.World.{ask, to_broker}
use Rattle.mqtt_world.proofs.script_laws_lemmas.OneTurn.{answers_once}
use Rattle.mqtt_world.proofs.scene_lemmas.Drained.{goes_added}
use Rattle.mqtt_world.proofs.scene.scene.Scene.answer_one.Goals as goal

pub returns : goal.returns
returns g c =
    goes_added g.K.Keep c.args.now (ask (to_broker c.args.client.now)) c.args.self.now c.ask_packet.new.self c.in_ok-more.more c.args.told.now
    c.add.new.told c.add.result (λ limits u w v h. answers_once limits c.args.client.now u w v h) c.in_ok-more.ensures c.add.ensures

-- By what it tells, added.
use Rattle.mqtt_world_model.specs.model.World.{to_end}
use Rattle.mqtt_world.proofs.script_laws_lemmas.OneTurn.{reads_once}
use Rattle.mqtt_world.proofs.scene_lemmas.Drained.{goes_added_ever}
use Rattle.mqtt_world.proofs.scene.scene.Scene.read_one.Goals as goal

pub returns : goal.returns
returns g c =
    goes_added_ever g.K.Keep (to_end c.args.client.now) c.args.self.now c.to_end.new.self c.in_ok-more.more c.args.told.now c.add.new.told
    c.add.result (λ limits u w v h. reads_once limits c.args.client.now u w v h) c.in_ok-more.ensures c.add.ensures

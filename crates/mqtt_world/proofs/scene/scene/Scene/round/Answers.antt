-- By its three parts.
use Rattle.mqtt_world.proofs.scene_lemmas.Drained.{goes_round}
use Rattle.mqtt_world.proofs.scene.scene.Scene.round.Goals as goal

pub read_all-requires : goal.read_all-requires
read_all-requires g c = c.in_ok-send.ensures.playable

pub answer_all-requires : goal.answer_all-requires
answer_all-requires g c = (c.in_ok-read_all.ensures c.args.now).playable

pub returns : goal.returns
returns g c =
    goes_round g.K.Keep c.args.now c.args.client.now c.args.self.now c.send.new.self c.read_all.new.self c.answer_all.new.self c.args.told.now
    c.send.new.told c.read_all.new.told c.answer_all.new.told c.answer_all.result c.in_ok-send.ensures (c.in_ok-read_all.ensures c.args.now)
    c.answer_all.ensures

-- By one packet more.
use Rattle.std.proofs.Common.{◌+◌, arith}
use Rattle.mqtt_world_model.specs.model.World.{ask, to_broker}
use Rattle.mqtt_world.proofs.scene_lemmas.Drained.{all_answered, none_yet, one_more, packets_from}
use Rattle.mqtt_world.proofs.scene.scene.Scene.answer_all.Goals as goal

pub loop-init : goal.loop-init
loop-init g c = none_yet g.K.Keep c.args.now (ask (to_broker c.args.client.now)) c.args.self.now c.args.told.now c.requires

pub answer_one-requires : goal.answer_one-requires
answer_one-requires g c = c.loop.invariant.playable

pub loop-preserved : goal.loop-preserved
loop-preserved g c =
    one_more g.K.Keep c.args.now c.loop.counter (c.loop.counter + 1) (ask (to_broker c.args.client.now)) c.args.self.now c.loop.self c.answer_one.new.self
    c.args.told.now c.loop.told c.answer_one.new.told (omega arith) c.loop.invariant c.in_ok-answer_one.ensures

pub returns : goal.returns
returns g c =
    all_answered g.K.Keep c.args.now c.args.client.now c.loop.counter c.unwrap_or-packets.result c.args.self.now c.loop.self c.args.told.now c.loop.told
    (omega arith)
    (λ ss. packets_from c.args.client.now c.args.self.now c.self.inside.engine c.self.inside.clients c.ups.result c.unwrap_or-packets.result c.self.view_is
    c.ups.ensures c.unwrap_or-packets.ensures c.args.now ss)
    c.loop.invariant

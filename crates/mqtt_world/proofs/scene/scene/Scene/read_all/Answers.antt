-- By one packet more.
use Rattle.std.proofs.Common.{◌+◌, arith}
use Rattle.mqtt_world_model.specs.model.World.{to_end}
use Rattle.mqtt_world.proofs.scene_lemmas.Drained.{all_read, none_yet, one_more, packets_to}
use Rattle.mqtt_world.proofs.scene.scene.Scene.read_all.Goals as goal

pub loop-init : goal.loop-init
loop-init g c = λ now. none_yet g.K.Keep now (to_end c.args.client.now) c.args.self.now c.args.told.now c.requires

pub read_one-requires : goal.read_one-requires
read_one-requires g c = (c.loop.invariant 0).playable

pub loop-preserved : goal.loop-preserved
loop-preserved g c = λ now.
    one_more g.K.Keep now c.loop.counter (c.loop.counter + 1) (to_end c.args.client.now) c.args.self.now c.loop.self c.read_one.new.self c.args.told.now
    c.loop.told c.read_one.new.told (omega arith) (c.loop.invariant now) (c.in_ok-read_one.ensures now)

pub returns : goal.returns
returns g c = λ now.
    all_read g.K.Keep now c.args.client.now c.loop.counter c.unwrap_or-packets.result c.args.self.now c.loop.self c.args.told.now c.loop.told (omega arith)
    (λ ss. packets_to c.args.client.now c.args.self.now c.self.inside.engine c.self.inside.clients c.downs.result c.unwrap_or-packets.result c.self.view_is
    c.downs.ensures c.unwrap_or-packets.ensures now ss)
    (c.loop.invariant now)

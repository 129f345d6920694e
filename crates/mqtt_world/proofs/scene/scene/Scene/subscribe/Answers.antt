use Rattle.std.proofs.Common.{sym}
use Rattle.mqtt_world_model.specs.model.World.{subscribe}
use Rattle.mqtt_world_ends.specs.peers.Receivers.{wish_of}
use Rattle.mqtt_world.proofs.scene_lemmas.Unasked.{done_on, refused}
use Rattle.mqtt_world.proofs.scene.scene.Scene.subscribe.Goals as goal

pub returns-then-branch : goal.returns-then-branch
returns-then-branch g c =
    refused g.K.Keep (subscribe c.args.client.now (wish_of c.args.wish.now)) c.args.self.now c.in_ok-is_bad_subscribe.field-0 c.requires c.in_ok-is_bad_subscribe.ensures
    c.if-branch.true

pub returns : goal.returns
returns g c =
    done_on g.K.Keep (subscribe c.args.client.now (wish_of c.args.wish.now)) c.args.self.now c.self.inside.engine c.inner.result.now c.self.inside.clients
    c.subscribe.new.self c.in_ok-is_bad_subscribe.field-0 c.silent.result c.inner.ensures (sym c.self.view_is) tt c.silent.ensures c.requires c.in_ok-is_bad_subscribe.ensures
    c.if-branch.false c.in_ok-subscribe.ensures

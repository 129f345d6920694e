use Rattle.std.proofs.Common.{ap, not, sym}
use Rattle.mqtt_world_model.specs.model.World.{World, is_end, to_end}
use Rattle.mqtt_world.proofs.scene_lemmas.Unasked.{done_on, refused, seen}
use Rattle.mqtt_world.proofs.scene.scene.Scene.to_end.Goals as goal

pub returns-then-not-is_end : goal.returns-then-not-is_end
returns-then-not-is_end g c =
    let s = c.args.self.now in
    let there = seen (λ (w : World). is_end c.args.client.now w) s c.self.inside.engine c.self.inside.clients c.is_end.result c.self.view_is
    c.is_end.ensures in
    refused g.K.Keep (to_end c.args.client.now) s (not c.is_end.result) c.requires (λ now ss. ap not (there now ss)) (ap not c.if-not-is_end.true)

pub returns : goal.returns
returns g c =
    let s = c.args.self.now in
    let there = seen (λ (w : World). is_end c.args.client.now w) s c.self.inside.engine c.self.inside.clients c.is_end.result c.self.view_is
    c.is_end.ensures in
    done_on g.K.Keep (to_end c.args.client.now) s c.self.inside.engine c.inner.result.now c.self.inside.clients c.read.new.self (not c.is_end.result)
    c.silent.result c.inner.ensures (sym c.self.view_is) tt c.silent.ensures c.requires (λ now ss. ap not (there now ss)) (ap not c.if-not-is_end.false)
    c.in_ok-read.ensures

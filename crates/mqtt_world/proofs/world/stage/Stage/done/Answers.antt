use Rattle.std.proofs.Common.{◌≡◌, ap}
use Rattle.mqtt_world_model.specs.model.World.{World}
use Rattle.mqtt_world.specs.declared.world.stage.Stage.TheInside.{Inside}
use Rattle.mqtt_world.specs.scene.Events.{played, world_of}
use Rattle.mqtt_world.specs.world.Worlds.{done_in}
use Rattle.mqtt_world.proofs.world_lemmas.Looked.{seen_from}
use Rattle.mqtt_world.proofs.world.stage.Stage.done.Goals as goal

pub returns : goal.returns
returns g c =
    let s = c.self.inside in
    let x = c.self-inside.inside.0.0 in
    let scene = ap (λ (i : Inside _). i.scene) c.self-inside.view_is in
    seen_from (λ (w : World). c.done.result ≡ done_in c.args.client.now w) x.engine x.clients s.scene s.strangers s.now s.limits c.args.self.now
    scene c.self.view_is (c.done.ensures (world_of s.now s.strangers (played x.engine x.clients)))

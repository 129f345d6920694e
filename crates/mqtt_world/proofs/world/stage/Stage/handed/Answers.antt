use Rattle.std.proofs.Common.{◌≡◌, IfOk, ap, option_map, vec_items}
use Rattle.mqtt_world_model.specs.model.World.{World}
use Rattle.mqtt_world.specs.declared.world.stage.Stage.TheInside.{Inside}
use Rattle.mqtt_world.specs.scene.Events.{played, world_of}
use Rattle.mqtt_world.specs.world.Worlds.{handed_in}
use Rattle.mqtt_world.proofs.world_lemmas.Looked.{ok_at, seen_from}
use Rattle.mqtt_world.proofs.world.stage.Stage.handed.Goals as goal

pub returns : goal.returns
returns g c =
    let s = c.self.inside in
    let x = c.self-inside.inside.0.0 in
    let scene = ap (λ (i : Inside _). i.scene) c.self-inside.view_is in
    let w : World = world_of s.now s.strangers (played x.engine x.clients) in
    seen_from (λ (v : World). IfOk c.handed.result (λ handed. option_map vec_items handed ≡ handed_in c.args.client.now v))
    x.engine x.clients s.scene s.strangers s.now s.limits c.args.self.now scene c.self.view_is
    (ok_at _ c.handed.result w c.handed.ensures)

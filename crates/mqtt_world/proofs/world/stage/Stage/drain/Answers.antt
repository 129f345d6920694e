-- By what its scene does.
use Rattle.mqtt_world.proofs.world_lemmas.Drained.{all_drain}
use Rattle.mqtt_world.proofs.world_lemmas.Staged.{playable_in}
use Rattle.mqtt_world.proofs.world.stage.Stage.drain.Goals as goal

pub drain-requires : goal.drain-requires
drain-requires g c =
    let s = c.self.inside in
    playable_in g.K.Keep s.scene s.strangers s.now s.limits c.args.self.now c.self.view_is c.requires

pub returns : goal.returns
returns g c =
    let s = c.self.inside in
    all_drain g.K.Keep c.args.client.now s.scene c.drain.new.self s.strangers s.now s.limits c.args.self.now c.drain.result c.self.view_is c.requires
    c.drain.ensures

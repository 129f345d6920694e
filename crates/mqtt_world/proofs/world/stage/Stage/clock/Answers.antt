-- By what time that passes is.
use Rattle.mqtt_world.proofs.world_lemmas.Staged.{clock_plays_in}
use Rattle.mqtt_world.proofs.world.stage.Stage.clock.Goals as goal

pub returns : goal.returns
returns g c =
    let s = c.self.inside in
    clock_plays_in g.K.Keep c.args.wait s.scene s.strangers s.now c.later-self-inside.result s.limits c.args.self.now c.silent.result
    c.self.view_is c.requires c.later-self-inside.ensures c.silent.ensures

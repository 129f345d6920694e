-- By what its scene does.
use Rattle.mqtt_world_model.specs.model.World.{ask}
use Rattle.mqtt_world.specs.script_laws.Scripted.{asking_of}
use Rattle.mqtt_world.proofs.world_lemmas.Staged.{all_play, playable_in}
use Rattle.mqtt_world.proofs.world.stage.Stage.ask.Goals as goal

pub ask-requires-clause-playable : goal.ask-requires-clause-playable
ask-requires-clause-playable g c =
    let s = c.self.inside in
    playable_in g.K.Keep s.scene s.strangers s.now s.limits c.args.self.now c.self.view_is c.requires.standing

pub returns : goal.returns
returns g c =
    let s = c.self.inside in
    all_play g.K.Keep (ask (asking_of c.args.asking.now)) s.scene c.ask.new.self s.strangers s.now s.limits c.args.self.now c.ask.result
    c.self.view_is c.requires.standing c.ask.ensures

-- By what its scene does.
use Rattle.mqtt_world.specs.script_laws.Scripted.{event_of}
use Rattle.mqtt_world.proofs.world_lemmas.Pieces.{if_plays}
use Rattle.mqtt_world.proofs.world_lemmas.Staged.{playable_in}
use Rattle.mqtt_world.proofs.world.stage.Stage.play.Goals as goal

pub play-requires : goal.play-requires
play-requires g c =
    let s = c.self.inside in
    playable_in g.K.Keep s.scene s.strangers s.now s.limits c.args.self.now c.self.view_is c.requires

pub returns : goal.returns
returns g c = λ is.
    let s = c.self.inside in
    if_plays g.K.Keep s.scene c.play.new.self s.strangers s.now s.limits c.args.self.now (event_of c.args.event.now) c.play.result
    c.self.view_is c.requires (c.play.ensures is)

-- By what the first piece makes of the stage.
use Rattle.mqtt_world.proofs.world_lemmas.Visited.{cut_short}
use Rattle.mqtt_world.proofs.world.stage.Stage.cut_visit.Goals as goal

pub returns-in-Ok : goal.returns-in-Ok
returns-in-Ok g c =
    let p = c.in-Ok.ensures in
    cut_short g.K.Keep c.args.name.now c.args.bytes.now c.in-Ok.field-0 p.t c.args.self.now c.piece-taken.new.self p.takes c.requires.good

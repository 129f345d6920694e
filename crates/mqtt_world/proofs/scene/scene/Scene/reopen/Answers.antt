-- By what an opening of the engine is.
use Rattle.std.proofs.Common.{sym}
use Rattle.mqtt_world.proofs.scene_lemmas.Reopened.{reopens}
use Rattle.mqtt_world.proofs.scene_lemmas.Halted.{opening_due}
use Rattle.mqtt_world.proofs.scene.scene.Scene.reopen.Goals as goal

pub returns-in-Ok : goal.returns-in-Ok
returns-in-Ok g c =
    reopens g.K.Keep c.args.limits c.args.now c.moment.result c.args.self c.self.inside.engine c.in-Ok.engine
    c.self.inside.clients c.restart.new.self c.close.result c.with_capacity.result (sym c.self.view_is) c.requires.playable
    c.close.ensures c.moment.ensures c.in-Ok.is c.with_capacity.ensures.opened.opened c.with_capacity.ensures.held
    c.restart.ensures.publishers c.restart.ensures.receivers

pub by_opening-requires : goal.by_opening-requires
by_opening-requires g c =
    opening_due g.K.Keep c.args.limits c.moment.result c.close.result c.in-Err.refusal c.with_capacity.result c.in-Err.is c.with_capacity.ensures.opened.refused

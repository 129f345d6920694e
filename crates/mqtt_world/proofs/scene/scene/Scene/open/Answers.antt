-- By what an opening of the engine is.
use Rattle.mqtt_world.proofs.scene_lemmas.Reopened.{begins}
use Rattle.mqtt_world.proofs.scene_lemmas.Halted.{opening_due, unbegun}
use Rattle.mqtt_world.proofs.scene.scene.Scene.open.Goals as goal

pub returns-in-Ok-clause-begins : goal.returns-in-Ok-clause-begins
returns-in-Ok-clause-begins g c =
    begins g.K.Keep c.args.limits c.args.now c.moment.result c.args.keep c.in-Ok.engine c.new.result c.with_capacity.result
    c.moment.ensures c.in-Ok.is c.with_capacity.ensures.opened.opened c.with_capacity.ensures.held c.new.ensures

pub by_opening-requires : goal.by_opening-requires
by_opening-requires g c =
    opening_due g.K.Keep c.args.limits c.moment.result c.args.keep c.in-Err.refusal c.with_capacity.result c.in-Err.is c.with_capacity.ensures.opened.refused

pub returns-in-Err-clause-refused : goal.returns-in-Err-clause-refused
returns-in-Err-clause-refused g c =
    unbegun g.K.Keep c.args.limits _ c.moment.result c.args.keep c.in-Err.refusal c.by_opening.result c.with_capacity.result c.moment.ensures c.in-Err.is
    c.with_capacity.ensures.opened.refused c.by_opening.ensures

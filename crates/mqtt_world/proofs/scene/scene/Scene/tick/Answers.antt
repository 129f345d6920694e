-- By what a call of the engine is.
use Rattle.std.proofs.Common.{sym}
use Rattle.mqtt_rules.specs.step.Step.{Tick}
use Rattle.mqtt_world.proofs.scene_lemmas.Answered.{answered_in}
use Rattle.mqtt_world.proofs.scene_lemmas.Halted.{call_due}
use Rattle.mqtt_world.proofs.scene.scene.Scene.tick.Goals as goal

pub returns-in-Ok : goal.returns-in-Ok
returns-in-Ok g c =
    answered_in g.K.Keep c.args.now c.moment.result (Tick) c.args.self.now c.tell.new.self c.self.inside.engine c.tick.new.self c.self.inside.clients c.in-Ok.outcome c.tick.result c.tell.result
    (sym c.self.view_is) c.requires c.moment.ensures c.in-Ok.is c.tick.ensures c.tell.ensures.same c.tell.ensures.ends c.tell.ensures.told

pub by_call-requires : goal.by_call-requires
by_call-requires g c =
    call_due g.K.Keep c.moment.result Tick c.args.self.now c.self.inside.engine c.tick.new.self c.self.inside.clients c.in-Err.error c.tick.result
    (sym c.self.view_is) c.requires c.in-Err.is c.tick.ensures

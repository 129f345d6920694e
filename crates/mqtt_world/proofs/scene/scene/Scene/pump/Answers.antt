-- By what a call of the engine is.
use Rattle.std.proofs.Common.{sym}
use Rattle.mqtt_rules.specs.step.Step.{Pump}
use Rattle.mqtt_world.proofs.scene_lemmas.Answered.{answered_in}
use Rattle.mqtt_world.proofs.scene_lemmas.Halted.{call_due}
use Rattle.mqtt_world.proofs.scene.scene.Scene.pump.Goals as goal

pub returns-in-Ok : goal.returns-in-Ok
returns-in-Ok g c =
    answered_in g.K.Keep c.args.now c.moment.result (Pump c.args.line) c.args.self.now c.tell.new.self c.self.inside.engine c.pump.new.self c.self.inside.clients c.in-Ok.outcome c.pump.result c.tell.result
    (sym c.self.view_is) c.requires c.moment.ensures c.in-Ok.is c.pump.ensures.called c.tell.ensures.same c.tell.ensures.ends c.tell.ensures.told

pub by_call-requires : goal.by_call-requires
by_call-requires g c =
    call_due g.K.Keep c.moment.result (Pump c.args.line) c.args.self.now c.self.inside.engine c.pump.new.self c.self.inside.clients c.in-Err.error c.pump.result
    (sym c.self.view_is) c.requires c.in-Err.is c.pump.ensures.called

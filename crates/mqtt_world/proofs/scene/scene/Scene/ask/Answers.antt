-- By what each asking does.
use Rattle.std.proofs.Common.{subst}
use Rattle.std.specs.Prelude.{IfOk}
use Rattle.mqtt_world_model.specs.model.World.{Asking, ask}
use Rattle.mqtt_world.specs.scene.Events.{Does}
use Rattle.mqtt_world.proofs.scene_lemmas.TakenOff.{broken_as, not_plain, pumped_as, read_as, ticked_as}
use Rattle.mqtt_world.proofs.scene.scene.Scene.ask.Goals as goal

pub returns-in-ToBroker : goal.returns-in-ToBroker
returns-in-ToBroker g c =
    let m = c.in-ToBroker in
    subst (λ (a : Asking). IfOk c.ask_packet.result (λ t. Does g.K.Keep c.args.now (ask a) c.args.self.now t c.ask_packet.new.self))
    (read_as c.args.asking.now m.client c.as_str.result.now m.old m.is c.as_str.ensures.value) c.ask_packet.ensures

pub returns-in-Break : goal.returns-in-Break
returns-in-Break g c =
    let m = c.in-Break in
    subst (λ (a : Asking). IfOk c.ask_break.result (λ t. Does g.K.Keep c.args.now (ask a) c.args.self.now t c.ask_break.new.self))
    (broken_as c.args.asking.now m.client c.as_str-in-Break.result.now m.is c.as_str-in-Break.ensures.value) c.ask_break.ensures

pub returns-in-Pump : goal.returns-in-Pump
returns-in-Pump g c =
    let m = c.in-Pump in
    subst (λ (a : Asking). IfOk c.ask_pump.result (λ t. Does g.K.Keep c.args.now (ask a) c.args.self.now t c.ask_pump.new.self))
    (pumped_as c.args.asking.now m.client c.as_str-in-Pump.result.now m.is c.as_str-in-Pump.ensures.value) c.ask_pump.ensures

pub returns-in-Tick : goal.returns-in-Tick
returns-in-Tick g c =
    subst (λ (a : Asking). IfOk c.ask_tick.result (λ t. Does g.K.Keep c.args.now (ask a) c.args.self.now t c.ask_tick.new.self))
    (ticked_as c.args.asking.now c.in-Tick.is) c.ask_tick.ensures

pub returns-in-Stranger : goal.returns-in-Stranger
returns-in-Stranger g c = not_plain c.args.asking.now _ _ c.in-Stranger.is c.requires.plain

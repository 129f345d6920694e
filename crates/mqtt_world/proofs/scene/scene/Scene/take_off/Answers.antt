-- By what each asking does.
use Rattle.std.proofs.Common.{ap, not, refl, subst, sym, true, ◌∙◌}
use Rattle.std.specs.Prelude.{IfOk}
use Rattle.mqtt_world_model.specs.model.World.{Asking, break, has_line, pump}
use Rattle.mqtt_world.specs.scene.Events.{played, world_of}
use Rattle.mqtt_world.specs.scene.Stopping.{TakesOff}
use Rattle.mqtt_world.proofs.scene_lemmas.TakenOff.{broken_as, not_plain, off_if, pumped_as, read_as, tick_off, ticked_as}
use Rattle.mqtt_world.proofs.scene.scene.Scene.take_off.Goals as goal

pub returns-in-ToBroker : goal.returns-in-ToBroker
returns-in-ToBroker g c =
    let m = c.in-ToBroker in
    subst (λ (a : Asking). IfOk c.take_packet.result (λ is. TakesOff a is c.args.self.now c.take_packet.new.self))
    (read_as c.args.asking.now m.client c.as_str.result.now m.old m.is c.as_str.ensures.value) c.take_packet.ensures

pub returns-in-Break : goal.returns-in-Break
returns-in-Break g c =
    let m = c.in-Break in
    let s = c.self.inside in
    let text = c.as_str-in-Break.result.now in
    subst (λ (a : Asking). TakesOff a c.has_line.result c.args.self.now c.args.self.now)
    (broken_as c.args.asking.now m.client text m.is c.as_str-in-Break.ensures.value)
    (off_if (break text) s.engine s.clients c.args.self.now c.has_line.result c.self.view_is
    (λ now ss. ap not (sym (c.has_line.ensures ∙ ap has_line (c.link_of.ensures (world_of now ss (played s.engine s.clients))))))
    (λ now ss no. no) (λ set now ss. refl))

pub returns-in-Pump : goal.returns-in-Pump
returns-in-Pump g c =
    let m = c.in-Pump in
    let s = c.self-in-Pump.inside in
    let text = c.as_str-in-Pump.result.now in
    subst (λ (a : Asking). TakesOff a c.is_end.result c.args.self.now c.args.self.now)
    (pumped_as c.args.asking.now m.client text m.is c.as_str-in-Pump.ensures.value)
    (off_if (pump text) s.engine s.clients c.args.self.now c.is_end.result c.self-in-Pump.view_is
    (λ now ss. ap not (sym (c.is_end.ensures (world_of now ss (played s.engine s.clients)))))
    (λ now ss no. no) (λ set now ss. refl))

pub returns-in-Tick : goal.returns-in-Tick
returns-in-Tick g c =
    subst (λ (a : Asking). TakesOff a true c.args.self.now c.args.self.now) (ticked_as c.args.asking.now c.in-Tick.is)
    (tick_off c.args.self.now)

pub returns-in-Stranger : goal.returns-in-Stranger
returns-in-Stranger g c = not_plain c.args.asking.now _ _ c.in-Stranger.is c.requires

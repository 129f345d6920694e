-- By what its calls make of the broker and the ends.
use Rattle.std.proofs.Common.{not, ap, sym, ◌∙◌, inl, refl}
use Rattle.mqtt_rules.specs.step.Step.{Pump}
use Rattle.mqtt_world_model.specs.model.World.{ask, pump, pump_on}
use Rattle.mqtt_world.specs.scene.Events.{played, world_of}
use Rattle.mqtt_world.proofs.scene_lemmas.Eventful.{bad_from, called_whole, nothing_whole}
use Rattle.mqtt_world.proofs.scene.scene.Scene.ask_pump.Goals as goal

pub returns-then-not-is_end : goal.returns-then-not-is_end
returns-then-not-is_end g c =
    let s = c.self.inside in
    bad_from g.K.Keep c.args.now (ask (pump c.args.client.now)) s.engine s.clients c.args.self.now c.self.view_is c.requires
    (λ ss. inl (ap not (sym (c.is_end.ensures (world_of c.args.now ss (played s.engine s.clients))) ∙ c.if-not-is_end.true)))

pub returns-in_ok-told-in-Some : goal.returns-in_ok-told-in-Some
returns-in_ok-told-in-Some g c =
    let s = c.self.inside in
    called_whole g.K.Keep c.args.now (pump c.args.client.now) (Pump c.in-Some.line) s.engine s.clients c.args.self.now c.pump.new.self c.in_ok-told-in-Some.told tt
    c.self.view_is c.requires
    (λ ss. ap not (sym (c.is_end.ensures (world_of c.args.now ss (played s.engine s.clients))) ∙ c.if-not-is_end.false))
    (λ set ss. ap pump_on (sym (c.number.ensures (world_of c.args.now ss (played s.engine s.clients))) ∙ c.in-Some.is))
    (λ set ss. refl) tt c.in_ok-told-in-Some.ensures (λ ss. refl)

pub returns-in-None : goal.returns-in-None
returns-in-None g c =
    let s = c.self.inside in
    nothing_whole g.K.Keep c.args.now (pump c.args.client.now) s.engine s.clients c.args.self.now c.silent.result tt c.silent.ensures
    c.self.view_is c.requires
    (λ ss. ap not (sym (c.is_end.ensures (world_of c.args.now ss (played s.engine s.clients))) ∙ c.if-not-is_end.false))
    (λ set ss. ap pump_on (sym (c.number.ensures (world_of c.args.now ss (played s.engine s.clients))) ∙ c.in-None.is))
    (λ set ss. refl)

-- By what its calls make of the broker and the ends.
use Rattle.std.proofs.Common.{not, ap, sym, ◌∙◌, inl, refl}
use Rattle.mqtt_rules.specs.step.Step.{Lost}
use Rattle.mqtt_world_model.specs.model.World.{ask, break, has_line, lost_on}
use Rattle.mqtt_world.specs.scene.Events.{played, world_of}
use Rattle.mqtt_world.proofs.scene_lemmas.Eventful.{bad_from, called_left, nothing_from}
use Rattle.mqtt_world.proofs.scene.scene.Scene.ask_break.Goals as goal

pub returns-then-not-has_line : goal.returns-then-not-has_line
returns-then-not-has_line g c =
    let s = c.self.inside in
    bad_from g.K.Keep c.args.now (ask (break c.args.client.now)) s.engine s.clients c.args.self.now c.self.view_is c.requires
    (λ ss. inl (ap not (sym (c.has_line.ensures ∙ ap has_line (c.link_of.ensures (world_of c.args.now ss (played s.engine s.clients)))) ∙ c.if-not-has_line.true)))

pub returns-in_ok-told-in-Some : goal.returns-in_ok-told-in-Some
returns-in_ok-told-in-Some g c =
    let s = c.self.inside in
    let f = c.self-in-Some.inside in
    called_left g.K.Keep c.args.now (break c.args.client.now) (Lost c.in-Some.line) s.engine f.engine s.clients f.clients c.leave.new.self c.args.self.now c.lose.new.self
    c.in_ok-told-in-Some.told tt c.self.view_is c.self-in-Some.view_is c.requires
    (λ ss. ap not (sym (c.has_line.ensures ∙ ap has_line (c.link_of.ensures (world_of c.args.now ss (played s.engine s.clients)))) ∙ c.if-not-has_line.false))
    (λ set ss. ap lost_on (sym (c.number.ensures (world_of c.args.now ss (played s.engine s.clients))) ∙ c.in-Some.is))
    (λ set ss. refl) tt c.in_ok-told-in-Some.ensures (λ ss. c.leave.ensures (world_of c.args.now ss (played f.engine f.clients)))

pub returns-in-None : goal.returns-in-None
returns-in-None g c =
    let s = c.self.inside in
    nothing_from g.K.Keep c.args.now (break c.args.client.now) s.engine s.clients c.leave-in-None.new.self c.args.self.now c.silent.result tt c.silent.ensures
    c.self.view_is c.requires
    (λ ss. ap not (sym (c.has_line.ensures ∙ ap has_line (c.link_of.ensures (world_of c.args.now ss (played s.engine s.clients)))) ∙ c.if-not-has_line.false))
    (λ set ss. ap lost_on (sym (c.number.ensures (world_of c.args.now ss (played s.engine s.clients))) ∙ c.in-None.is))
    (λ set ss. c.leave-in-None.ensures (world_of c.args.now ss (played s.engine s.clients)))

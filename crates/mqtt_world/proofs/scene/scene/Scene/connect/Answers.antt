-- By what its calls make of the broker and the ends.
use Rattle.std.proofs.Common.{not, ap, sym, ◌∙◌, inl}
use Rattle.mqtt_world_model.specs.model.World.{connect_end, is_away}
use Rattle.mqtt_world.specs.scene.Events.{played, world_of}
use Rattle.mqtt_world.proofs.scene_lemmas.Eventful.{bad_from}
use Rattle.mqtt_world.proofs.scene_lemmas.Joined.{joined, left_alone, next_there, none_next}
use Rattle.mqtt_world.proofs.scene.scene.Scene.connect.Goals as goal

pub returns-then-not-is_away : goal.returns-then-not-is_away
returns-then-not-is_away g c =
    let s = c.self.inside in
    bad_from g.K.Keep c.args.now (connect_end c.args.client.now c.args.clean) s.engine s.clients c.args.self.now c.self.view_is c.requires
    (λ ss. inl (ap not (sym (c.is_away.ensures ∙ ap is_away (c.link_of.ensures (world_of c.args.now ss (played s.engine s.clients)))) ∙ c.if-not-is_away.true)))

pub returns-then-not-may_link : goal.returns-then-not-may_link
returns-then-not-may_link g c =
    let s = c.self.inside in
    left_alone g.K.Keep c.args.now c.args.client.now c.args.clean s.engine s.clients c.args.self.now c.silent.result c.silent.ensures
    c.self.view_is c.requires
    (λ ss. ap not (sym (c.is_away.ensures ∙ ap is_away (c.link_of.ensures (world_of c.args.now ss (played s.engine s.clients)))) ∙ c.if-not-is_away.false))
    (none_next s.engine.running.limits s.engine.running.broker (sym c.may_link.ensures ∙ c.if-not-may_link.true))

pub unreachable-requires : goal.unreachable-requires
unreachable-requires g c =
    let s = c.self.inside in
    c.in_default.not-Some _
    (c.link.ensures.line ∙ next_there s.engine s.clients c.args.self.now c.self.view_is (sym c.may_link.ensures ∙ c.if-not-may_link.false))

pub returns : goal.returns
returns g c =
    let s = c.self.inside in
    let f = c.self-2.inside in
    joined g.K.Keep c.args.now c.args.client.now c.args.clean s.engine s.clients c.args.self.now c.silent-2.result
    f.engine f.clients c.join.new.self c.link.new.self c.in-Some.line c.silent-2.ensures c.self.view_is c.self-2.view_is
    (λ ss. ap not (sym (c.is_away.ensures ∙ ap is_away (c.link_of.ensures (world_of c.args.now ss (played s.engine s.clients)))) ∙ c.if-not-is_away.false))
    (sym c.in-Some.is ∙ c.link.ensures.line) c.link.ensures.calls c.in_ok-join.ensures

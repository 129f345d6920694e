-- By what its calls make of the broker and the ends.
use Rattle.std.proofs.Common.{◌≡◌, true, inl, sym, ap, subst, option_map, ◌∙◌}
use Rattle.mqtt_world_model.specs.model.World.{ask, before, is_end}
use Rattle.mqtt_world.specs.clients.Ends.{Ends, in_world, input_of, reading}
use Rattle.mqtt_world.specs.scene.Events.{played, world_of}
use Rattle.mqtt_world.proofs.scene_lemmas.Eventful.{bad_from, ends_of, nothing_from, reading_bad, reading_good, reading_leaves, reading_plain}
use Rattle.mqtt_world.proofs.scene.scene.Scene.ask_packet.Goals as goal

pub returns-then-not-is_end : goal.returns-then-not-is_end
returns-then-not-is_end g c =
    let s = c.self.inside in
    bad_from g.K.Keep c.args.now (ask (reading c.args.old c.args.client.now)) s.engine s.clients c.args.self.now c.self.view_is c.requires
    (λ ss. inl (reading_bad c.args.old c.args.client.now (world_of c.args.now ss (played s.engine s.clients))
    (sym (c.is_end.ensures (world_of c.args.now ss (played s.engine s.clients))) ∙ c.if-not-is_end.true)))

pub read_packet-told-requires-clause-there : goal.read_packet-told-requires-clause-there
read_packet-told-requires-clause-there g c = λ w.
    subst (λ (e : Ends). is_end c.args.client.now (in_world e w) ≡ true) (ends_of _ _ c.self.view_is) (sym (c.is_end.ensures w) ∙ c.if-not-is_end.false)

pub returns-in-None : goal.returns-in-None
returns-in-None g c =
    let s = c.self.inside in
    let asking = reading c.args.old c.args.client.now in
    nothing_from g.K.Keep c.args.now asking s.engine s.clients c.take.new.self c.args.self.now c.silent.result
    (reading_plain c.args.old c.args.client.now) c.silent.ensures c.self.view_is c.requires
    (λ ss. let w = world_of c.args.now ss (played s.engine s.clients) in
    reading_good c.args.old c.args.client.now w (sym (c.is_end.ensures w) ∙ c.if-not-is_end.false))
    (λ set ss. sym (c.in_ok-line.ensures set (world_of c.args.now ss (played s.engine s.clients))) ∙ ap (option_map input_of) c.in-None.is)
    (λ set ss. let w = world_of c.args.now ss (played s.engine s.clients) in
    c.take.ensures set w ∙ reading_leaves c.args.old c.args.client.now (before set asking w))

-- By the packet in front.
use Rattle.std.proofs.Common.{inl, inr, refl, sym, ◌∙◌}
use Rattle.mqtt_world.specs.clients.Ends.{reading}
use Rattle.mqtt_world.specs.scene.Events.{played, world_of}
use Rattle.mqtt_world.proofs.scene_lemmas.Eventful.{reading_bad, reading_good}
use Rattle.mqtt_world.proofs.scene_lemmas.TakenOff.{bad_off, readable, taken_off, unreadable}
use Rattle.mqtt_world.proofs.scene.scene.Scene.take_packet.Goals as goal

pub returns-then-not-is_end : goal.returns-then-not-is_end
returns-then-not-is_end g c =
    let s = c.self.inside in
    let a = reading c.args.old c.args.client.now in
    bad_off a s.engine s.clients c.args.self.now c.self.view_is
    (λ now ss. let w = world_of now ss (played s.engine s.clients) in
    inl (reading_bad c.args.old c.args.client.now w (sym (c.is_end.ensures w) ∙ c.if-not-is_end.true)))

pub returns-then-not-branch : goal.returns-then-not-branch
returns-then-not-branch g c =
    let a = reading c.args.old c.args.client.now in
    let f = c.in_ok-is_front_taken in
    (λ now ss. inr (unreadable f.field-0 a (world_of now ss c.args.self.now) c.if-not-branch.true (f.ensures now ss)), refl)

pub returns : goal.returns
returns g c =
    let s = c.self.inside in
    let a = reading c.args.old c.args.client.now in
    let f = c.in_ok-is_front_taken in
    taken_off a s.engine s.clients c.args.self.now c.take.new.self c.self.view_is
    (λ now ss. let w = world_of now ss (played s.engine s.clients) in
    reading_good c.args.old c.args.client.now w (sym (c.is_end.ensures w) ∙ c.if-not-is_end.false))
    (λ now ss. readable f.field-0 a (world_of now ss c.args.self.now) c.if-not-branch.false (f.ensures now ss))
    (λ set now ss. c.take.ensures set (world_of now ss (played s.engine s.clients)))

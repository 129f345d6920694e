-- By what its calls make of the broker and the ends.
use Rattle.std.proofs.Common.{◌≡◌, Some, true, subst, sym}
use Rattle.mqtt_rules.specs.step.Step.{Input}
use Rattle.mqtt_world_model.specs.model.World.{ask, call_of, is_end}
use Rattle.mqtt_world.specs.clients.Ends.{Ends, in_world, reading}
use Rattle.mqtt_world.specs.scene.Events.{played, world_of}
use Rattle.mqtt_world.proofs.scene_lemmas.Eventful.{any_setting, bad_done, called_taken, ends_of, not_refused, reading_good, reading_leaves, reading_plain, reading_refused}
use Rattle.mqtt_world.proofs.scene.scene.Scene.read_packet.Goals as goal

pub returns-then-not-is_input : goal.returns-then-not-is_input
returns-then-not-is_input g c =
    let s = c.args.self.now in
    let set = any_setting s.engine.running.limits in
    bad_done g.K.Keep c.args.now (ask (reading c.args.old c.args.client.now)) s c.requires.playable
    (λ ss. reading_refused set c.args.old c.args.client.now (world_of c.args.now ss s) c.args.line c.args.packet.now (c.requires.front set (world_of c.args.now ss s))
    (not_refused c.is_input.result c.if-not-is_input.true c.is_input.ensures.taken.1))

pub returns : goal.returns
returns g c =
    let s = c.self.inside in
    let t = c.input.new.self in
    let asking = reading c.args.old c.args.client.now in
    let same = sym (ends_of _ _ c.self.view_is) in
    called_taken g.K.Keep c.args.now asking (Input c.args.line c.args.packet.now) s.engine s.clients c.take.new.self c.args.self.now t c.in_ok-told.told
    (reading_plain c.args.old c.args.client.now) c.self.view_is c.requires.playable
    (λ ss. let w = world_of c.args.now ss (played s.engine s.clients) in reading_good c.args.old c.args.client.now w
    (subst (λ (e : Ends). is_end c.args.client.now (in_world e w) ≡ true) same (c.requires.there w)))
    (λ set ss. let w = world_of c.args.now ss (played s.engine s.clients) in
    sym (subst (λ (e : Ends). Some (Input c.args.line c.args.packet.now) ≡ call_of set asking (in_world e w)) same (c.requires.front set w)))
    (λ set ss. c.take.ensures set (world_of c.args.now ss (played s.engine s.clients)))
    (c.is_input.ensures.taken.0 c.if-not-is_input.false)
    c.in_ok-told.ensures (λ ss. reading_leaves c.args.old c.args.client.now (world_of c.args.now ss t))

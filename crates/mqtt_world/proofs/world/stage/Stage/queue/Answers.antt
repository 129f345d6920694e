use Rattle.std.proofs.Common.{◌≡◌, ◌∙◌, None, Some, ap, sym}
use Rattle.mqtt_world_model.specs.model.World.{World}
use Rattle.mqtt_rules.specs.step.State.{session_named}
use Rattle.mqtt_world.specs.declared.world.stage.Stage.TheInside.{Inside}
use Rattle.mqtt_world.specs.scene.Events.{played, world_of}
use Rattle.mqtt_world.specs.world.Worlds.{queue_in}
use Rattle.mqtt_world.proofs.world_lemmas.Looked.{its_queue, length_none, length_some, no_queue, seen_from}
use Rattle.mqtt_world.proofs.world.stage.Stage.queue.Goals as goal

pub returns-then-not-is_end : goal.returns-then-not-is_end
returns-then-not-is_end g c =
    let s = c.self.inside in
    let x = c.self-inside.inside.0.0 in
    let scene = ap (λ (i : Inside _). i.scene) c.self-inside.view_is in
    let w : World = world_of s.now s.strangers (played x.engine x.clients) in
    seen_from (λ (v : World). None ≡ queue_in c.args.client.now v)
    x.engine x.clients s.scene s.strangers s.now s.limits c.args.self.now scene c.self.view_is
    (no_queue c.is_end.result c.args.client.now w (c.is_end.ensures w) c.if-not-is_end.true)

pub returns-in-Some : goal.returns-in-Some
returns-in-Some g c =
    let s = c.self.inside in
    let x = c.self-inside.inside.0.0 in
    let scene = ap (λ (i : Inside _). i.scene) c.self-inside.view_is in
    let w : World = world_of s.now s.strangers (played x.engine x.clients) in
    seen_from (λ (v : World). Some c.in-Some.len ≡ queue_in c.args.client.now v)
    x.engine x.clients s.scene s.strangers s.now s.limits c.args.self.now scene c.self.view_is
    (its_queue c.is_end.result c.args.client.now w c.in-Some.len (c.is_end.ensures w) c.if-not-is_end.false
    (length_some c.in-Some.len (session_named c.args.client.now x.engine.running.broker.records) (sym c.in-Some.is ∙ c.queue_len.ensures)))

pub returns-in-None : goal.returns-in-None
returns-in-None g c =
    let s = c.self.inside in
    let x = c.self-inside.inside.0.0 in
    let scene = ap (λ (i : Inside _). i.scene) c.self-inside.view_is in
    let w : World = world_of s.now s.strangers (played x.engine x.clients) in
    seen_from (λ (v : World). Some 0 ≡ queue_in c.args.client.now v)
    x.engine x.clients s.scene s.strangers s.now s.limits c.args.self.now scene c.self.view_is
    (its_queue c.is_end.result c.args.client.now w 0 (c.is_end.ensures w) c.if-not-is_end.false
    (length_none (session_named c.args.client.now x.engine.running.broker.records) (sym c.in-None.is ∙ c.queue_len.ensures)))

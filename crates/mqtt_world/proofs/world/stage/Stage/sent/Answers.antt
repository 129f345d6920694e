use Rattle.std.proofs.Common.{◌≡◌, None, Some, ap}
use Rattle.mqtt_world_model.specs.model.World.{World}
use Rattle.mqtt_world.specs.declared.world.stage.Stage.TheInside.{Inside}
use Rattle.mqtt_world.specs.scene.Events.{played, world_of}
use Rattle.mqtt_world.specs.world.Worlds.{sent_in}
use Rattle.mqtt_world.proofs.world_lemmas.Looked.{its_messages, no_publisher, seen_from}
use Rattle.mqtt_world.proofs.world.stage.Stage.sent.Goals as goal

pub returns-then-not-has_publisher : goal.returns-then-not-has_publisher
returns-then-not-has_publisher g c =
    let s = c.self.inside in
    let x = c.self-inside.inside.0.0 in
    let scene = ap (λ (i : Inside _). i.scene) c.self-inside.view_is in
    let w : World = world_of s.now s.strangers (played x.engine x.clients) in
    seen_from (λ (v : World). None ≡ sent_in c.args.client.now c.args.events.now v)
    x.engine x.clients s.scene s.strangers s.now s.limits c.args.self.now scene c.self.view_is
    (no_publisher c.has_publisher.result c.args.client.now c.args.events.now w (c.has_publisher.ensures w) c.if-not-has_publisher.true)

pub returns : goal.returns
returns g c =
    let s = c.self.inside in
    let x = c.self-inside.inside.0.0 in
    let scene = ap (λ (i : Inside _). i.scene) c.self-inside.view_is in
    let w : World = world_of s.now s.strangers (played x.engine x.clients) in
    seen_from (λ (v : World). Some c.published.result ≡ sent_in c.args.client.now c.args.events.now v)
    x.engine x.clients s.scene s.strangers s.now s.limits c.args.self.now scene c.self.view_is
    (its_messages c.has_publisher.result c.args.client.now c.args.events.now w c.published.result (c.has_publisher.ensures w) c.if-not-has_publisher.false
    c.published.ensures)

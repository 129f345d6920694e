use Rattle.std.proofs.Common.{◌≡◌, rules, sym}
use Rattle.mqtt_world_model.specs.model.World.{publisher}
use Rattle.mqtt_world.proofs.scene_lemmas.Unasked.{done_at, publisher_made, refused}
use Rattle.mqtt_world.proofs.scene.scene.Scene.make_publisher.Goals as goal

pub returns-then-is_bad_publisher : goal.returns-then-is_bad_publisher
returns-then-is_bad_publisher g c =
    let s = c.args.self.now in
    refused g.K.Keep (publisher c.args.client.now) s c.is_bad_publisher.result c.requires c.is_bad_publisher.ensures c.if-is_bad_publisher.true

pub returns : goal.returns
returns g c =
    let s = c.args.self.now in
    let o = c.self.inside.clients in
    let same : c.in_ok-client.client ≡ c.args.client.now = search rules in
    done_at g.K.Keep (publisher c.args.client.now) s c.self.inside.engine o c.add_publisher.new.self c.is_bad_publisher.result c.silent.result
    (sym c.self.view_is) tt c.silent.ensures c.requires c.is_bad_publisher.ensures c.if-is_bad_publisher.false
    (publisher_made c.args.client.now c.in_ok-client.client c.self.inside.engine.running.broker o c.add_publisher.new.self same
    c.in_ok-add_publisher.ensures)

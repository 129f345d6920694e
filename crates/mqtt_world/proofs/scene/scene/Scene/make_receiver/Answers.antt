use Rattle.std.proofs.Common.{◌≡◌, ◌<◌, ◌^◌, arith, rules, sym}
use Rattle.std.proofs.lemmas.Bool.{lt-ltb}
use Rattle.mqtt_world_model.specs.model.World.{receiver}
use Rattle.mqtt_world.proofs.scene_lemmas.Unasked.{done_at, receiver_made, refused}
use Rattle.mqtt_world.proofs.scene.scene.Scene.make_receiver.Goals as goal

pub returns-then-is_bad_receiver : goal.returns-then-is_bad_receiver
returns-then-is_bad_receiver g c =
    let s = c.args.self.now in
    let few : c.args.aliases < 2 ^ 16 = omega arith in
    refused g.K.Keep (receiver c.args.client.now c.args.window c.args.aliases) s c.is_bad_receiver.result c.requires
    (λ now ss. c.is_bad_receiver.ensures c.args.aliases now ss (lt-ltb c.args.aliases (2 ^ 16) few)) c.if-is_bad_receiver.true

pub returns : goal.returns
returns g c =
    let s = c.args.self.now in
    let o = c.self.inside.clients in
    let same : c.in_ok-client.client ≡ c.args.client.now = search rules in
    let few : c.args.aliases < 2 ^ 16 = omega arith in
    done_at g.K.Keep (receiver c.args.client.now c.args.window c.args.aliases) s c.self.inside.engine o c.add_receiver.new.self
    c.is_bad_receiver.result c.silent.result (sym c.self.view_is) tt c.silent.ensures c.requires
    (λ now ss. c.is_bad_receiver.ensures c.args.aliases now ss (lt-ltb c.args.aliases (2 ^ 16) few)) c.if-is_bad_receiver.false
    (receiver_made c.args.client.now c.in_ok-client.client c.args.window c.args.aliases c.births.result
    c.self.inside.engine.running.broker o c.add_receiver.new.self same c.births.ensures c.in_ok-add_receiver.ensures)

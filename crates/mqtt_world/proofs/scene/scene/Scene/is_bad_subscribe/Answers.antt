use Rattle.std.proofs.Common.{◌∙◌, ap, not, sym}
use Rattle.mqtt_world_model.specs.model.World.{World, is_wish, may_ask, receiver_named}
use Rattle.mqtt_world_ends.specs.peers.Receivers.{wish_of}
use Rattle.mqtt_world.specs.scene.Events.{world_of}
use Rattle.mqtt_world.proofs.scene_lemmas.Unasked.{or_first, or_second, seen}
use Rattle.mqtt_world.proofs.scene.scene.Scene.is_bad_subscribe.Goals as goal

pub returns-then-not-may_ask : goal.returns-then-not-may_ask
returns-then-not-may_ask g c = λ now ss.
    let may = λ (w : World). may_ask (receiver_named c.args.client.now w) in
    let there = seen may c.args.self.now c.self.inside.engine c.self.inside.clients c.may_ask.result c.self.view_is c.may_ask.ensures now ss in
    or_first (not (may (world_of now ss c.args.self.now))) (not (is_wish (wish_of c.args.wish.now))) (not c.may_ask.result) (ap not there)
    (ap not c.if-not-may_ask.true)

pub returns-in_ok-is_wish : goal.returns-in_ok-is_wish
returns-in_ok-is_wish g c = λ now ss.
    let may = λ (w : World). may_ask (receiver_named c.args.client.now w) in
    let there = seen may c.args.self.now c.self.inside.engine c.self.inside.clients c.may_ask.result c.self.view_is c.may_ask.ensures now ss in
    or_second (not (may (world_of now ss c.args.self.now))) (not (is_wish (wish_of c.args.wish.now))) (not c.in_ok-is_wish.field-0)
    (ap not (sym there ∙ c.if-not-may_ask.false)) (ap not c.in_ok-is_wish.ensures)

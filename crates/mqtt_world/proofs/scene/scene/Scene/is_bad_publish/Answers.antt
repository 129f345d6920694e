use Rattle.std.proofs.Common.{◌∙◌, ap, not, sym}
use Rattle.std.specs.Prelude.{is_none, is_some}
use Rattle.mqtt_world_model.specs.model.World.{World, is_message, publisher_named}
use Rattle.mqtt_world_ends.specs.peers.Publishers.{draft_of}
use Rattle.mqtt_world.specs.scene.Events.{world_of}
use Rattle.mqtt_world.proofs.scene_lemmas.Unasked.{or_first, or_second, seen}
use Rattle.mqtt_world.proofs.scene.scene.Scene.is_bad_publish.Goals as goal

pub returns-then-not-has_publisher : goal.returns-then-not-has_publisher
returns-then-not-has_publisher g c = λ now ss.
    let named = λ (w : World). publisher_named c.args.client.now w in
    let there = seen (λ (w : World). is_some (named w)) c.args.self.now c.self.inside.engine c.self.inside.clients c.has_publisher.result
    c.self.view_is c.has_publisher.ensures now ss in
    or_first (is_none (named (world_of now ss c.args.self.now))) (not (is_message (draft_of c.args.draft.now)))
    (not c.has_publisher.result) (ap not there) (ap not c.if-not-has_publisher.true)

pub returns-in_ok-is_message : goal.returns-in_ok-is_message
returns-in_ok-is_message g c = λ now ss.
    let named = λ (w : World). publisher_named c.args.client.now w in
    let there = seen (λ (w : World). is_some (named w)) c.args.self.now c.self.inside.engine c.self.inside.clients c.has_publisher.result
    c.self.view_is c.has_publisher.ensures now ss in
    or_second (is_none (named (world_of now ss c.args.self.now))) (not (is_message (draft_of c.args.draft.now)))
    (not c.in_ok-is_message.field-0) (ap not (sym there ∙ c.if-not-has_publisher.false)) (ap not c.in_ok-is_message.ensures)

use Rattle.std.proofs.Common.{◌∙◌, ap, not, sym}
use Rattle.mqtt_world_model.specs.model.World.{are_aliases, is_bad_name, is_end, is_window, may_take}
use Rattle.mqtt_world.specs.scene.Events.{world_of}
use Rattle.mqtt_world.proofs.scene_lemmas.Unasked.{and_true, or_either, or_third}
use Rattle.mqtt_world.proofs.scene.scene.Scene.is_bad_receiver.Goals as goal

pub returns-then-is_bad_publisher : goal.returns-then-is_bad_publisher
returns-then-is_bad_publisher g c = λ aliases now ss within.
    let client = c.args.client.now in
    or_either (is_bad_name client) (is_end client (world_of now ss c.args.self.now)) (not (may_take c.args.window aliases))
    c.is_bad_publisher.result (c.is_bad_publisher.ensures now ss) c.if-is_bad_publisher.true

pub returns-else-is_bad_publisher : goal.returns-else-is_bad_publisher
returns-else-is_bad_publisher g c = λ aliases now ss within.
    let client = c.args.client.now in
    or_third (is_bad_name client) (is_end client (world_of now ss c.args.self.now)) (not (may_take c.args.window aliases))
    (not c.is_window.result) (sym (c.is_bad_publisher.ensures now ss) ∙ c.if-is_bad_publisher.false)
    (ap not (c.is_window.ensures ∙ and_true (is_window c.args.window) (are_aliases aliases) within))

use Rattle.std.proofs.Common.{◌∙◌, List, ap, sym, ℕ}
use Rattle.mqtt_world_model.specs.model.World.{is_bad_name, is_end}
use Rattle.mqtt_world.specs.clients.Ends.{in_world}
use Rattle.mqtt_world.specs.scene.Events.{world_of}
use Rattle.mqtt_world.proofs.scene_lemmas.Unasked.{or_second, seen}
use Rattle.mqtt_world.proofs.scene.scene.Scene.is_bad_publisher.Goals as goal

pub returns-else-is_bad_name : goal.returns-else-is_bad_name
returns-else-is_bad_name g c = λ now ss.
    let o = c.self.inside.clients in
    let there = seen (is_end c.args.client.now) c.args.self.now c.self.inside.engine o c.is_end.result c.self.view_is
    (λ w. c.is_end.ensures w ∙ ap (λ (n : List ℕ). is_end n (in_world o w)) c.as_str.ensures.value) now ss in
    or_second (is_bad_name c.args.client.now) (is_end c.args.client.now (world_of now ss c.args.self.now)) c.is_end.result
    (sym c.is_bad_name.ensures ∙ c.if-is_bad_name.false) there

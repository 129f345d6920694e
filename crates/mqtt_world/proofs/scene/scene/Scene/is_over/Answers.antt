-- By what is looked at.
use Rattle.mqtt_world.specs.scene.Events.{world_of}
use Rattle.mqtt_world.proofs.scene_lemmas.Drained.{over_by_copies, over_by_line}
use Rattle.mqtt_world.proofs.scene.scene.Scene.is_over.Goals as goal

pub returns-then-has_no_copies : goal.returns-then-has_no_copies
returns-then-has_no_copies g c = λ now ss.
    over_by_copies c.has_no_copies.result c.args.client.now (world_of now ss c.args.self.now) c.if-has_no_copies.true (c.has_no_copies.ensures now ss)

pub returns-else-has_no_copies : goal.returns-else-has_no_copies
returns-else-has_no_copies g c = λ now ss.
    over_by_line c.has_no_copies.result c.is_bad_drain.result c.args.client.now (world_of now ss c.args.self.now) c.if-has_no_copies.false
    (c.has_no_copies.ensures now ss) (c.is_bad_drain.ensures now ss)

-- By the names of the CONNECTs.
use Rattle.std.proofs.Common.{ap, ◌∙◌}
use Rattle.mqtt_world.specs.scene.Events.{played}
use Rattle.mqtt_world.proofs.world_lemmas.Calling.{any_named, staged}
use Rattle.mqtt_world.proofs.world.stage.Stage.is_bad_visit.Goals as goal

pub returns : goal.returns
returns g c =
    let (f, (strangers, (now, (limits, _)))) = c.self-inside.inside.0 in
    any_named (played f.engine f.clients) strangers now limits c.args.self.now c.args.name.now c.args.bytes.now c.in_ok-names.names.items c.deref.result.now
    c.is_end_among-bad.result (ap (λ x. staged x.scene x.strangers x.now x.limits) c.self-inside.view_is ∙ c.self.view_is) c.are_bytes.ensures
    c.in_ok-names.ensures c.deref.ensures.value c.is_end_among-bad.ensures

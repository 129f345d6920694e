-- By what is done if there is room.
use Rattle.std.proofs.Common.{◌∙◌, ap}
use Rattle.mqtt_script.specs.declared.event.Event.TheVariants.{Drain}
use Rattle.mqtt_world.specs.world.Worlds.{Lasting, over_by}
use Rattle.mqtt_world.specs.declared.scene.over.Over.TheVariants as over
use Rattle.mqtt_world.proofs.world_lemmas.Course.{drain_refused_as, drained_as, ended}
use Rattle.mqtt_world.proofs.world.world.World.drain_on.Goals as goal

pub returns-in-Ok-clause-drained : goal.returns-in-Ok-clause-drained
returns-in-Ok-clause-drained g c =
    drained_as g.K.Keep c.as_str.result.now c.args.client.now c.args.stage c.make_drain.new.self c.args.self.now c.play_drain.new.self c.play_drain.result
    c.as_str.ensures.value c.make_drain.ensures.same c.play_drain.ensures.drained

pub returns-in-Ok-clause-refused : goal.returns-in-Ok-clause-refused
returns-in-Ok-clause-refused g c =
    drain_refused_as g.K.Keep c.as_str.result.now c.args.client.now c.args.stage c.make_drain.new.self c.args.self.now c.play_drain.new.self
    c.play_drain.result c.as_str.ensures.value c.make_drain.ensures.same c.play_drain.ensures.refused

pub returns-in-Err-clause-refused : goal.returns-in-Err-clause-refused
returns-in-Err-clause-refused g c =
    ended g.K.Keep (Drain c.args.client.now) over.Memory c.args.stage c.args.self.now c.end_short.new.self c.end_short.result c.end_short.ensures.fault
    (c.end_short.ensures.over ∙ ap (λ (w : Lasting _). over_by over.Memory w) c.make_drain.ensures.same)

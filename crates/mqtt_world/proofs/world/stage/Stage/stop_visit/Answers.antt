-- By what happens before the broker is opened again.
use Rattle.std.proofs.Common.{Bool, subst}
use Rattle.mqtt_world_model.specs.model.World.{stranger}
use Rattle.mqtt_world.specs.scene.Stopping.{stop_at}
use Rattle.mqtt_world.specs.world.Visits.{MayStopAt}
use Rattle.mqtt_world.proofs.world_lemmas.Visited.{all_stop}
use Rattle.mqtt_world.proofs.world.stage.Stage.stop_visit.Goals as goal

pub returns-in-Ok-true : goal.returns-in-Ok-true
returns-in-Ok-true g c =
    let e = stop_at c.args.after (stranger c.args.name.now c.args.bytes.now) in
    all_stop g.K.Keep e c.args.self c.begin_stop.new.self c.restart.result
    (subst (λ (b : Bool). MayStopAt g.K.Keep e c.args.self b c.begin_stop.new.self) c.in-Ok-true.field-0-test c.in-Ok-true.ensures) c.restart.ensures.opened

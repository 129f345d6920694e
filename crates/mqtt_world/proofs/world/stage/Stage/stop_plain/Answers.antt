-- By whether it is after the commit.
use Rattle.std.proofs.Common.{Bool, subst, sym}
use Rattle.std.specs.Prelude.{IfOk}
use Rattle.mqtt_world.specs.script_laws.Scripted.{asking_of}
use Rattle.mqtt_world.specs.world.Stages.{Plays}
use Rattle.mqtt_world.specs.scene.Stopping.{stop_at}
use Rattle.mqtt_world.proofs.world.stage.Stage.stop_plain.Goals as goal

pub returns-then-after : goal.returns-then-after
returns-then-after g c =
    subst (λ (t : Bool). IfOk c.stop_after.result (λ x. Plays g.K.Keep (stop_at t (asking_of c.args.asking.now)) c.args.self x.1 x.0))
    (sym c.if-after.true) c.stop_after.ensures

pub returns-else-after : goal.returns-else-after
returns-else-after g c =
    subst (λ (t : Bool). IfOk c.stop_before.result (λ x. Plays g.K.Keep (stop_at t (asking_of c.args.asking.now)) c.args.self x.1 x.0))
    (sym c.if-after.false) c.stop_before.ensures

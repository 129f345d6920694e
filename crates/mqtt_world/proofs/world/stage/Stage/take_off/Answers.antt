-- By what its scene does.
use Rattle.std.proofs.Common.{ap, subst}
use Rattle.std.specs.Prelude.{IfOk}
use Rattle.mqtt_world.specs.script_laws.Scripted.{asking_of}
use Rattle.mqtt_world.specs.scene.Scenes.{Played}
use Rattle.mqtt_world.specs.world.Stages.{Staged}
use Rattle.mqtt_world.specs.scene.Stopping.{TakesOff}
use Rattle.mqtt_world.proofs.world.stage.Stage.take_off.Goals as goal

pub returns-clause-same : goal.returns-clause-same
returns-clause-same g c = ap (λ (x : Staged _). record x { played = c.take_off.new.self }) c.self.view_is

pub returns-clause-taken : goal.returns-clause-taken
returns-clause-taken g c =
    subst (λ (x : Played _). IfOk c.take_off.result (λ is. TakesOff (asking_of c.args.asking.now) is x c.take_off.new.self))
    (ap (λ (x : Staged _). x.played) c.self.view_is) c.take_off.ensures

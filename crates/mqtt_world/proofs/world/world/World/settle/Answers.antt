use Rattle.std.proofs.Common.{Option, ap, subst}
use Rattle.std.specs.Prelude.{Err}
use Rattle.mqtt_world_model.specs.model.Tellings.{Telling}
use Rattle.mqtt_world.specs.world.Worlds.{Performs}
use Rattle.mqtt_world.proofs.world_lemmas.Course.{kept_happens, refused_here}
use Rattle.mqtt_world.proofs.world.world.World.settle.Goals as goal

pub returns-in-Some-clause-happened : goal.returns-in-Some-clause-happened
returns-in-Some-clause-happened g c = λ s p.
    kept_happens g.K.Keep c.args.event s c.args.stage c.in-Some.told c.args.self.now c.keep.new.self c.keep.result
    (subst (λ (t : Option Telling). Performs g.K.Keep c.args.event s t c.args.stage) c.in-Some.is p) c.keep.ensures.told c.keep.ensures.kept

pub returns-in-None-clause-refused : goal.returns-in-None-clause-refused
returns-in-None-clause-refused g c = λ s p.
    refused_here g.K.Keep c.args.event s c.args.stage c.args.self.now _ (Err c.refuse.result)
    (subst (λ (t : Option Telling). Performs g.K.Keep c.args.event s t c.args.stage) c.in-None.is p) (ap Err c.refuse.ensures.fault) c.refuse.ensures.goes_on

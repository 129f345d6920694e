-- By what is kept.
use Rattle.std.specs.Prelude.{Ok}
use Rattle.mqtt_world.proofs.world_lemmas.Course.{kept_drain}
use Rattle.mqtt_world.proofs.world.world.World.keep_drain.Goals as goal

pub returns-in-Ok-clause-drained : goal.returns-in-Ok-clause-drained
returns-in-Ok-clause-drained g c = λ client s is p.
    kept_drain g.K.Keep c.args.event client c.args.rounds s c.args.stage c.args.told c.args.self.now c.keep.new.self (Ok c.in-Ok.told) is p c.in-Ok.ensures.kept

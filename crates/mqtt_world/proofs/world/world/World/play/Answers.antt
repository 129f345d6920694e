-- By what came of the event on the stage.
use Rattle.mqtt_world.proofs.world_lemmas.Course.{performs_stands}
use Rattle.mqtt_world.proofs.world.world.World.play.Goals as goal

pub settle-requires : goal.settle-requires
settle-requires g c =
    record { standing = performs_stands g.K.Keep c.args.event c.args.stage c.in-Ok.told c.in-Ok.stage c.in-Ok.ensures }

pub returns-in-Ok-clause-happened : goal.returns-in-Ok-clause-happened
returns-in-Ok-clause-happened g c = c.settle.ensures.happened c.args.stage c.in-Ok.ensures

pub returns-in-Ok-clause-refused : goal.returns-in-Ok-clause-refused
returns-in-Ok-clause-refused g c = c.settle.ensures.refused c.args.stage c.in-Ok.ensures

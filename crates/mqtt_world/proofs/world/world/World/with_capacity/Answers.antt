-- By what an opening begins with.
use Rattle.mqtt_world.proofs.world_lemmas.Started.{begun_stands_in, starts_in}
use Rattle.std.proofs.Common.{arith, min}
use Rattle.mqtt_base.specs.declared.limits.TheConstants.{LAST_NUMBER}
use Rattle.mqtt_world.proofs.scene_lemmas.Halted.{no_start}
use Rattle.mqtt_world.proofs.world.world.World.with_capacity.Goals as goal

pub invariant_of-result : goal.invariant_of-result
invariant_of-result g c =
    begun_stands_in g.K.Keep c.args.limits c.args.keep c.in-Ok.scene c.new.result c.new.ensures c.requires.within c.in-Ok.ensures.begins

pub returns-in-Ok-clause-starts : goal.returns-in-Ok-clause-starts
returns-in-Ok-clause-starts g c =
    starts_in g.K.Keep c.args.limits c.args.keep c.in-Ok.scene c.new.result c.new-in-Ok.result c.new.ensures c.new-in-Ok.ensures c.requires.within c.in-Ok.ensures.begins

pub returns-in-Err-clause-refused : goal.returns-in-Err-clause-refused
returns-in-Err-clause-refused g c =
    no_start g.K.Keep c.args.limits 0 (min 0 LAST_NUMBER) c.args.keep c.in-Err.over c.fault-fault.result (omega arith) c.in-Err.ensures.refused c.fault-fault.ensures.fault

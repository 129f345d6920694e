-- By how a world ends.
use Rattle.std.proofs.Common.{◌∙◌, ap}
use Rattle.mqtt_world.specs.declared.scene.over.Over.{Over}
use Rattle.mqtt_world.specs.scene.Halting.{fault_of}
use Rattle.mqtt_world.specs.world.Worlds.{over_by}
use Rattle.mqtt_world.proofs.world.world.World.end_short.Goals as goal

pub returns-clause-fault : goal.returns-clause-fault
returns-clause-fault g c = c.end.ensures.fault ∙ ap fault_of c.by_memory.ensures

pub returns-clause-over : goal.returns-clause-over
returns-clause-over g c = c.end.ensures.over ∙ ap (λ (o : Over). over_by o c.args.self.now) c.by_memory.ensures

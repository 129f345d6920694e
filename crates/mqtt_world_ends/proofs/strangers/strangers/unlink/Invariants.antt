use Rattle.std.proofs.Common.{◌≡◌, ◌++◌, drop, map, take}
use Rattle.mqtt_world_model.specs.model.World.{unlinked}
use Rattle.mqtt_world_ends.proofs.strangers.strangers.unlink.Given as goal

abbrev pub invariant-loop-stranger : goal.invariant-loop-stranger
invariant-loop-stranger l =
    l.all ≡ map unlinked (take l.stranger-index l.fn.all) ++ drop l.stranger-index l.fn.all

use Rattle.std.proofs.Common.{◌≡◌, ◌++◌, drop, map, take}
use Rattle.mqtt_world_model.specs.model.World.{receiver_restarted}
use Rattle.mqtt_world.proofs.clients.receivers.restart.Given as goal

abbrev pub invariant-loop-receiver : goal.invariant-loop-receiver
invariant-loop-receiver l =
    l.receiver-items
    ≡ map (receiver_restarted) (take l.receiver-index l.fn.receivers.items) ++ drop l.receiver-index l.fn.receivers.items

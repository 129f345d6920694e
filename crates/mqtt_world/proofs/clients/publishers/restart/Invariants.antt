use Rattle.std.proofs.Common.{◌≡◌, ◌++◌, drop, map, take}
use Rattle.mqtt_world_model.specs.model.World.{publisher_restarted}
use Rattle.mqtt_world.proofs.clients.publishers.restart.Given as goal

abbrev pub invariant-loop-publisher : goal.invariant-loop-publisher
invariant-loop-publisher l =
    l.publisher-items
    ≡ map (publisher_restarted) (take l.publisher-index l.fn.publishers.items) ++ drop l.publisher-index l.fn.publishers.items

use Rattle.std.proofs.Common.{◌≡◌, ◌++◌, drop, map, take}
use Rattle.mqtt_world.specs.clients.Ends.{if_publisher, publisher_joined}
use Rattle.mqtt_world.proofs.clients.publishers.join_named.Given as goal

abbrev pub invariant-loop-publisher : goal.invariant-loop-publisher
invariant-loop-publisher l =
    l.publisher-items
    ≡ map (if_publisher l.client (publisher_joined l.number l.clean)) (take l.publisher-index l.fn.publishers.items) ++ drop l.publisher-index l.fn.publishers.items

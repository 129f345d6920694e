use Rattle.std.proofs.Common.{◌≡◌, ◌++◌, drop, map, take}
use Rattle.mqtt_world.specs.clients.Ends.{if_publisher, on_publisher_line}
use Rattle.mqtt_world.specs.clients.Lines.{changed}
use Rattle.mqtt_world.proofs.clients.publishers.change_named.Given as goal

abbrev pub invariant-loop-publisher : goal.invariant-loop-publisher
invariant-loop-publisher l =
    l.publisher-items
    ≡ map (if_publisher l.client (on_publisher_line (changed l.change))) (take l.publisher-index l.fn.publishers.items) ++ drop l.publisher-index l.fn.publishers.items

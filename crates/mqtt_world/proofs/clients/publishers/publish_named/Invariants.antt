use Rattle.std.proofs.Common.{◌≡◌, ◌++◌, drop, map, take}
use Rattle.mqtt_world_ends.specs.peers.Publishers.{draft_of}
use Rattle.mqtt_world.specs.clients.Ends.{if_publisher, published_at}
use Rattle.mqtt_world.proofs.clients.publishers.publish_named.Given as goal

abbrev pub invariant-loop-publisher : goal.invariant-loop-publisher
invariant-loop-publisher g l =
    l.publisher-items
    ≡ map (if_publisher l.client (published_at (draft_of l.draft) l.engine.broker)) (take l.publisher-index l.fn.publishers.items) ++ drop l.publisher-index l.fn.publishers.items

use Rattle.std.proofs.Common.{◌≡◌, ◌++◌, drop, map, take}
use Rattle.mqtt_world_ends.specs.peers.Receivers.{wish_of}
use Rattle.mqtt_world.specs.clients.Ends.{asks_at, if_receiver}
use Rattle.mqtt_world.proofs.clients.receivers.ask_named.Given as goal

abbrev pub invariant-loop-receiver : goal.invariant-loop-receiver
invariant-loop-receiver g l =
    l.receiver-items
    ≡ map (if_receiver l.client (asks_at (wish_of l.wish) l.engine.broker)) (take l.receiver-index l.fn.receivers.items) ++ drop l.receiver-index l.fn.receivers.items

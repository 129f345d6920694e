use Rattle.std.proofs.Common.{◌≡◌, ◌++◌, drop, map, take}
use Rattle.mqtt_world.specs.clients.Ends.{if_receiver, receiver_joined}
use Rattle.mqtt_world.proofs.clients.receivers.join_named.Given as goal

abbrev pub invariant-loop-receiver : goal.invariant-loop-receiver
invariant-loop-receiver l =
    l.receiver-items
    ≡ map (if_receiver l.client (receiver_joined l.number l.clean)) (take l.receiver-index l.fn.receivers.items) ++ drop l.receiver-index l.fn.receivers.items

use Rattle.std.proofs.Common.{◌≡◌, ◌++◌, drop, map, take}
use Rattle.mqtt_world.specs.clients.Ends.{if_receiver, on_receiver_line}
use Rattle.mqtt_world.specs.clients.Lines.{changed}
use Rattle.mqtt_world.proofs.clients.receivers.change_named.Given as goal

abbrev pub invariant-loop-receiver : goal.invariant-loop-receiver
invariant-loop-receiver l =
    l.receiver-items
    ≡ map (if_receiver l.client (on_receiver_line (changed l.change))) (take l.receiver-index l.fn.receivers.items) ++ drop l.receiver-index l.fn.receivers.items

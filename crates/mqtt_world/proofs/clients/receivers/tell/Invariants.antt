use Rattle.std.proofs.Common.{◌≡◌, ◌++◌, drop, map, take}
use Rattle.mqtt_rules.specs.step.Step.{Outcome as Told}
use Rattle.mqtt_broker.specs.stored.Calling.{Tells}
use Rattle.mqtt_world_model.specs.model.World.{receiver_told}
use Rattle.mqtt_world_laws.specs.knowing.Knowing.{IsUnderstood, OnReceivers}
use Rattle.mqtt_world.specs.clients.Telling.{AreSpelled}
use Rattle.mqtt_world.proofs.clients.receivers.tell.Given as goal

abbrev pub invariant-loop-receiver : goal.invariant-loop-receiver
invariant-loop-receiver g l =
    (told : Told) → Tells told l.outcome → AreSpelled told → OnReceivers (λ e. IsUnderstood told.wires told.outputs e.number e.known) l.fn.receivers.items
    → l.receiver-items
    ≡ map (receiver_told l.engine.broker told) (take l.receiver-index l.fn.receivers.items) ++ drop l.receiver-index l.fn.receivers.items

use Rattle.std.proofs.Common.{◌≡◌, ◌++◌, drop, map, take}
use Rattle.mqtt_rules.specs.step.Step.{Outcome as Told}
use Rattle.mqtt_broker.specs.stored.Calling.{Tells}
use Rattle.mqtt_world_model.specs.model.World.{publisher_told}
use Rattle.mqtt_world_laws.specs.knowing.Knowing.{IsUnderstood, OnPublishers}
use Rattle.mqtt_world.specs.clients.Telling.{AreSpelled}
use Rattle.mqtt_world.proofs.clients.publishers.tell.Given as goal

abbrev pub invariant-loop-publisher : goal.invariant-loop-publisher
invariant-loop-publisher g l =
    (told : Told) → Tells told l.outcome → AreSpelled told → OnPublishers (λ e. IsUnderstood told.wires told.outputs e.number e.known) l.fn.publishers.items
    → l.publisher-items
    ≡ map (publisher_told l.engine.broker told) (take l.publisher-index l.fn.publishers.items) ++ drop l.publisher-index l.fn.publishers.items

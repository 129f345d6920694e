use Rattle.std.proofs.Common.{◌≡◌, drop}
use Rattle.mqtt_broker_step.specs.Undoing.{subscribes_before}
use Rattle.mqtt_broker_step.proofs.started.subscribes_before.Given as goal

abbrev pub invariant-loop-undo : goal.invariant-loop-undo
invariant-loop-undo l = subscribes_before (drop l.undo-index l.journal) l.last ≡ subscribes_before l.journal l.last

use Rattle.std.proofs.Common.{◌≡◌, drop}
use Rattle.mqtt_broker_step.specs.Undoing.{publications_before}
use Rattle.mqtt_broker_step.proofs.started.publications_before.Given as goal

abbrev pub invariant-loop-undo : goal.invariant-loop-undo
invariant-loop-undo l = publications_before (drop l.undo-index l.journal) l.last ≡ publications_before l.journal l.last

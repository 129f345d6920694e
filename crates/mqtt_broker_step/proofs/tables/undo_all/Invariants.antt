use Rattle.std.proofs.Common.{◌≡◌, length}
use Rattle.mqtt_broker_step.specs.Undoing.{broker_of, taken_back}
use Rattle.mqtt_broker_step.proofs.tables.undo_all.Given as goal

abbrev pub invariant-loop-undo : goal.invariant-loop-undo
invariant-loop-undo l =
    taken_back l.journal.items (broker_of l.records l.lines l.tellings l.given l.moment)
    ≡ taken_back l.initial.journal.items (broker_of l.initial.records l.initial.lines l.initial.tellings l.initial.given l.initial.moment)

abbrev pub decreases-loop-undo : goal.decreases-loop-undo
decreases-loop-undo l = length l.journal.items

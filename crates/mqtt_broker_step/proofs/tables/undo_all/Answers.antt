use Rattle.mqtt_broker_step.specs.Undoing.{broker_of, taken_back}
use Rattle.mqtt_broker_step.proofs.Journal.{taken_last}
use Rattle.mqtt_broker_step.proofs.tables.undo_all.Goals as goal

pub loop-undo-preserved : goal.loop-undo-preserved
loop-undo-preserved c =
    taken_last c.loop-undo.journal.items c.pop.new.self.items c.in-Some.undo
    (broker_of c.loop-undo.records c.loop-undo.lines c.loop-undo.tellings c.loop-undo.given c.loop-undo.moment)
    (broker_of c.undo_one.new.records c.undo_one.new.lines c.undo_one.new.tellings c.undo_one.new.given c.undo_one.new.moment)
    (taken_back c.args.journal.now.items (broker_of c.args.records.now c.args.lines.now c.args.tellings.now c.args.given.now c.args.moment.now))
    c.in-Some.ensures.items c.undo_one.ensures c.loop-undo.invariant

use Rattle.std.proofs.Common.{◌≡◌, ◌++◌, drop}
use Rattle.mqtt_broker_queue.specs.queues.Fitting.{fitting}
use Rattle.mqtt_broker_queue.proofs.queues.fitting.fitting.Given as goal

abbrev pub invariant-loop-row : goal.invariant-loop-row
invariant-loop-row l = l.sizes.items ++ fitting l.state l.now l.told (drop l.row-index l.rows) ≡ fitting l.state l.now l.fn.told l.rows

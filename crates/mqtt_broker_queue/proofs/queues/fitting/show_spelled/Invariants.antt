use Rattle.std.proofs.Common.{drop}
use Rattle.std.specs.List.{AllByRecursion}
use Rattle.mqtt_records.specs.messages.Queue.{IsSpelled}
use Rattle.mqtt_broker_queue.proofs.queues.fitting.show_spelled.Given as goal

abbrev pub invariant-loop-row : goal.invariant-loop-row
invariant-loop-row l = AllByRecursion (λ e. IsSpelled e.copy) (drop l.row-index l.rows) → AllByRecursion (λ e. IsSpelled e.copy) l.rows

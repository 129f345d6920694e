use Rattle.std.proofs.Common.{drop}
use Rattle.std.specs.List.{AllByRecursion}
use Rattle.mqtt_records.specs.messages.Queue.{CopyRow}
use Rattle.mqtt_broker.specs.stored.Identifiers.{HasTwoBytes}
use Rattle.mqtt_broker.proofs.stored.identifiers.queue_has_two_bytes.Given as goal

-- if the rest has, all have
abbrev pub invariant-loop-row : goal.invariant-loop-row
invariant-loop-row l =
    AllByRecursion (λ (row : CopyRow). HasTwoBytes row.phase) (drop l.row-index l.queue) → AllByRecursion (λ (row : CopyRow). HasTwoBytes row.phase) l.queue

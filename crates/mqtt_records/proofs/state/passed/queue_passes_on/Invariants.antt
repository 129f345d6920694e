use Rattle.std.proofs.Common.{drop}
use Rattle.std.specs.List.{AllByRecursion}
use Rattle.mqtt_records.specs.messages.Queue.{CopyRow}
use Rattle.mqtt_records.specs.messages.PassedOn.{IsPassedOn}
use Rattle.mqtt_records.proofs.state.passed.queue_passes_on.Given as goal

-- who has the rest has the whole
abbrev pub invariant-loop-row : goal.invariant-loop-row
invariant-loop-row l = AllByRecursion (λ (e : CopyRow). IsPassedOn e.copy.content.properties) (drop l.row-index l.queue) → AllByRecursion (λ (e : CopyRow). IsPassedOn e.copy.content.properties) l.queue

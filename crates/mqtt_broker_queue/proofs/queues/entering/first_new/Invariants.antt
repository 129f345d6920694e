use Rattle.std.proofs.Common.{◌≡◌, drop}
use Rattle.std.specs.Prelude.{find}
use Rattle.mqtt_records.specs.declared.state.records.Records.{Records}
use Rattle.mqtt_rules.specs.step.Outbound.{is_new}
use Rattle.mqtt_broker_queue.specs.queues.Entering.{IsBegun}
use Rattle.mqtt_broker_queue.proofs.queues.entering.first_new.Given as goal

abbrev pub invariant-loop-row : goal.invariant-loop-row
invariant-loop-row l = (start : Records) → IsBegun l.began start → find (λ e. is_new start e.copy) (drop l.row-index l.rows) ≡ find (λ e. is_new start e.copy) l.rows

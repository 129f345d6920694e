use Rattle.std.proofs.Common.{◌≡◌, drop}
use Rattle.std.specs.Prelude.{find}
use Rattle.mqtt_flow.specs.outbound.Queue.{is_holder}
use Rattle.mqtt_broker.proofs.stored.holding.held_by.Given as goal

abbrev pub invariant-loop-row : goal.invariant-loop-row
invariant-loop-row l = find (λ e. is_holder l.identifier e.phase) (drop l.row-index l.rows) ≡ find (λ e. is_holder l.identifier e.phase) l.rows

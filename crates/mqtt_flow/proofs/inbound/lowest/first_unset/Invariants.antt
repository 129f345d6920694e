use Rattle.std.proofs.Common.{◌≡◌, ◌+◌, ◌-◌, length}
use Rattle.mqtt_flow.specs.inbound.Identifiers.{lowest_from, free_identifier}
use Rattle.mqtt_flow.proofs.inbound.lowest.first_unset.Given as goal

abbrev pub invariant-loop-tried : goal.invariant-loop-tried
invariant-loop-tried l = record { same : lowest_from (length l.used - l._tried) l.identifier l.used ≡ free_identifier l.used; next : l.identifier ≡ l._tried + 1 }

-- Those that were added and those of the rest are all.
use Rattle.std.proofs.Common.{◌≡◌, ◌++◌, filter_map, length}
use Rattle.mqtt_base.specs.Phases.{identifier_of}
use Rattle.mqtt_keep.proofs.lawful.queue.have_identifiers_apart.Given as goal

abbrev pub invariant-loop-row : goal.invariant-loop-row
invariant-loop-row l =
    l.identifiers.items ++ filter_map (λ row. identifier_of row.phase) l.rest ≡ filter_map (λ row. identifier_of row.phase) l.queue

abbrev pub decreases-loop-row : goal.decreases-loop-row
decreases-loop-row l = length l.rest

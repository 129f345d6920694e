use Rattle.std.proofs.Common.{◌≡◌, ◌++◌, map, drop}
use Rattle.mqtt_topic.specs.names.Filters.{matching_part_of}
use Rattle.mqtt_routes.specs.routing.Retained.{kept_for}
use Rattle.mqtt_routes.proofs.routing.retained.KeptTable.kept_for.Given as goal

abbrev pub invariant-loop-slot : goal.invariant-loop-slot
invariant-loop-slot g l =
    map (λ k. k.now) l.found.items ++ kept_for (matching_part_of l.filter) (drop l.slot-index l.slot-items) ≡ kept_for (matching_part_of l.filter) l.self.messages

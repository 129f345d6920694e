-- What is below the run doesn't come after the filter, what is above it doesn't come before it, and within it the rest decides.
use Rattle.std.proofs.Common.{◌≡◌, ℕ, ◌<◌, ◌≤◌, [], get_or, length, true}
use Rattle.mqtt_topic.specs.names.Levels.{levels}
use Rattle.mqtt_topic.specs.names.Filters.{matching_part_of}
use Rattle.mqtt_routes.specs.tree.Tree.{IsRun, in_order, rest_of}
use Rattle.mqtt_routes.proofs.tree.spot.place.Given as goal

abbrev pub invariant-loop-level : goal.invariant-loop-level
invariant-loop-level g l = record {
  run : IsRun (g.F.Filters.texts l.filters) l.run;
  before : (i : ℕ) → i < l.run.from → in_order (levels (get_or (g.F.Filters.texts l.filters) i [])) (levels (matching_part_of l.filter)) ≡ true;
  behind : (i : ℕ) → l.run.to ≤ i → i < length (g.F.Filters.texts l.filters) → in_order (levels (matching_part_of l.filter)) (levels (get_or (g.F.Filters.texts l.filters) i [])) ≡ true;
  within_before : (i : ℕ) → l.run.from ≤ i → i < l.run.to → in_order (levels (get_or (g.F.Filters.texts l.filters) i [])) (levels (matching_part_of l.filter)) ≡ in_order (rest_of (g.F.Filters.texts l.filters) l.run i) l.rest;
  within_behind : (i : ℕ) → l.run.from ≤ i → i < l.run.to → in_order (levels (matching_part_of l.filter)) (levels (get_or (g.F.Filters.texts l.filters) i [])) ≡ in_order l.rest (rest_of (g.F.Filters.texts l.filters) l.run i);
}

abbrev pub decreases-loop-level : goal.decreases-loop-level
decreases-loop-level g l = length l.rest

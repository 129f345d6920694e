-- What was passed from below comes before the level, and what was passed from above doesn't.
use Rattle.std.proofs.Common.{◌≡◌, ℕ, ◌-◌, ◌≤◌, ◌<◌, true, false}
use Rattle.mqtt_routes.specs.tree.Tree.{is_before, rest_of}
use Rattle.mqtt_routes.proofs.tree.run.boundary.Given as goal

abbrev pub invariant-loop-from : goal.invariant-loop-from
invariant-loop-from g l = record {
  low : l.run.from ≤ l.from;
  order : l.from ≤ l.to;
  high : l.to ≤ l.run.to;
  before : (i : ℕ) → l.run.from ≤ i → i < l.from → is_before l.also l.level (rest_of (g.F.Filters.texts l.filters) l.run i) ≡ true;
  behind : (i : ℕ) → l.to ≤ i → i < l.run.to → is_before l.also l.level (rest_of (g.F.Filters.texts l.filters) l.run i) ≡ false;
}

abbrev pub decreases-loop-from : goal.decreases-loop-from
decreases-loop-from g l = l.to - l.from

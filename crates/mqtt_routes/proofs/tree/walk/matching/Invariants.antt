-- What was found, and what a walk by the levels to come finds, is what matches.
use Rattle.std.proofs.Common.{◌≡◌, ◌+◌, ℕ, length, nat_eq, count_by}
use Rattle.mqtt_routes.specs.tree.Tree.{AreRuns, ArePlain, found_in_all, is_found, levels_behind}
use Rattle.mqtt_routes.proofs.tree.walk.matching.Given as goal

abbrev pub invariant-loop-level : goal.invariant-loop-level
invariant-loop-level g l = record {
  runs : AreRuns (g.F.Filters.texts l.filters) l.runs.items;
  plain : ArePlain l.rest;
  behind : l.rest ≡ levels_behind l.at l.name;
  found : (i : ℕ) → count_by (nat_eq i) l.found.items + found_in_all (g.F.Filters.texts l.filters) l.rest i l.runs.items ≡ is_found (g.F.Filters.texts l.filters) l.name i;
}

abbrev pub decreases-loop-level : goal.decreases-loop-level
decreases-loop-level g l = length l.rest

-- What was found, and what is found in the runs to come, is what is found in all.
use Rattle.std.proofs.Common.{◌≡◌, ◌+◌, ◌∷◌, List, ℕ, drop, nat_eq, count_by}
use Rattle.mqtt_routes.specs.tree.Tree.{AreRuns, found_in_all}
use Rattle.mqtt_routes.proofs.tree.walk.pass.Given as goal

abbrev pub invariant-loop-run : goal.invariant-loop-run
invariant-loop-run g l = record {
  runs : AreRuns (g.F.Filters.texts l.filters) l.next.items;
  found : (i : ℕ) (ls : List (List ℕ)) → (count_by (nat_eq i) l.found.items + found_in_all (g.F.Filters.texts l.filters) ls i l.next.items) + found_in_all (g.F.Filters.texts l.filters) (l.level ∷ ls) i (drop l.run-index l.runs)
      ≡ count_by (nat_eq i) l.fn.found.items + found_in_all (g.F.Filters.texts l.filters) (l.level ∷ ls) i l.runs;
}

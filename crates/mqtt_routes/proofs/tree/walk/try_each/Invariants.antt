-- Of the numbers so far, those whose filters match are added.
use Rattle.std.proofs.Common.{◌≡◌, ℕ, ◌+◌, ◌&&◌, nat_eq, nat_le, nat_lt, count_by}
use Rattle.mqtt_topic.specs.names.Matching.{matches_levels}
use Rattle.mqtt_routes.specs.tree.Tree.{once, rest_of, levels_behind}
use Rattle.mqtt_routes.proofs.tree.walk.try_each.Given as goal

abbrev pub invariant-loop-number : goal.invariant-loop-number
invariant-loop-number g l =
    (i : ℕ) → count_by (nat_eq i) l.found.items ≡ count_by (nat_eq i) l.fn.found.items
    + once ((nat_le l.fn.run.from i && nat_lt i l.number) && matches_levels (rest_of (g.F.Filters.texts l.filters) l.fn.run i) (levels_behind l.at l.name))

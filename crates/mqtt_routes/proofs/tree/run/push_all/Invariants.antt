-- The numbers so far are added.
use Rattle.std.proofs.Common.{◌≡◌, ℕ, ◌+◌, ◌&&◌, nat_eq, nat_le, nat_lt, count_by}
use Rattle.mqtt_routes.specs.tree.Tree.{once}
use Rattle.mqtt_routes.proofs.tree.run.push_all.Given as goal

abbrev pub invariant-loop-number : goal.invariant-loop-number
invariant-loop-number l =
    (i : ℕ) → count_by (nat_eq i) l.numbers.items ≡ count_by (nat_eq i) l.fn.numbers.items + once (nat_le l.fn.run.from i && nat_lt i l.number)

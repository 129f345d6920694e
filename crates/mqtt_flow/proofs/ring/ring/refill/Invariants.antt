use Rattle.std.proofs.Common.{◌≡◌, ◌++◌}
use Rattle.std.specs.Vec.Iter.{into_iter_items}
use Rattle.mqtt_flow.proofs.ring.ring.refill.Given as goal

-- what is in the ring and what is left are the entries
abbrev pub invariant-loop-entry : goal.invariant-loop-entry
invariant-loop-entry g l = (goal.iterator-loop-entry g).can_next l.entry-iterator
    × (goal.iterator-loop-entry g).is_finite l.entry-iterator
    × (l.ring.items ++ into_iter_items l.entry-iterator ≡ l.fn.entries.items)
    × (l.ring.capacity ≡ l.fn.ring.capacity)

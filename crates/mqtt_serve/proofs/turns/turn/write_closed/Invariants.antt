use Rattle.std.proofs.Common.{◌≡◌, ◌≤◌, ◌-◌, length}
use Rattle.mqtt_serve.specs.turns.Related.{RelatedBelow}
use Rattle.mqtt_serve.specs.turns.Wires.{WritesLast}
use Rattle.mqtt_serve.proofs.turns.turn.write_closed.Given as goal

abbrev pub invariant-loop-place : goal.invariant-loop-place
invariant-loop-place g l = record {
  within : l.from ≤ length l.lines;
  writes : RelatedBelow (λ x y. WritesLast x.fate x y) l.from l.fn.lines l.lines;
  same : g.L.Link.calls l.link ≡ g.L.Link.calls l.fn.link;
}

abbrev pub decreases-loop-place : goal.decreases-loop-place
decreases-loop-place g l = length l.fn.lines - l.from

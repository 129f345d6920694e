use Rattle.std.proofs.Common.{◌≡◌}
use Rattle.mqtt_serve.specs.turns.Related.{RelatedBelow}
use Rattle.mqtt_serve.specs.turns.Wires.{lost_if}
use Rattle.mqtt_serve.proofs.turns.telling.lose.Given as goal

abbrev pub invariant-loop-place : goal.invariant-loop-place
invariant-loop-place g l = RelatedBelow (λ x y. y ≡ lost_if l.fn.number x) l.place l.fn.lines l.lines

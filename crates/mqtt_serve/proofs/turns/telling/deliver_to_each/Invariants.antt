use Rattle.mqtt_serve.specs.turns.Related.{RelatedBelow}
use Rattle.mqtt_serve.specs.turns.Wires.{Reaches}
use Rattle.mqtt_serve.proofs.turns.telling.deliver_to_each.Given as goal

abbrev pub invariant-loop-place : goal.invariant-loop-place
invariant-loop-place g l = RelatedBelow (Reaches l.fn.outputs l.fn.closed) l.place l.fn.lines l.lines

use Rattle.std.proofs.Common.{◌≡◌}
use Rattle.mqtt_serve.proofs.turns.stirring.stir_each.Given as goal

abbrev pub invariant-loop-place : goal.invariant-loop-place
invariant-loop-place g l = l.lines ≡ l.fn.lines

use Rattle.std.proofs.Common.{◌≡◌, [], take}
use Rattle.mqtt_serve.specs.turns.Wires.{bytes_to}
use Rattle.mqtt_serve.proofs.turns.telling.is_silent_for.Given as goal

-- the outputs before one are to other lines
abbrev pub invariant-loop-line : goal.invariant-loop-line
invariant-loop-line l = bytes_to l.fn.number (take l.line-index l.fn.outputs) ≡ []

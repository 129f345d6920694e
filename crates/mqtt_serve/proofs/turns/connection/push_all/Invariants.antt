use Rattle.std.proofs.Common.{◌≡◌, ◌++◌, take}
use Rattle.mqtt_serve.specs.turns.Wires.{bytes_to}
use Rattle.mqtt_serve.proofs.turns.connection.push_all.Given as goal

abbrev pub invariant-loop-line : goal.invariant-loop-line
invariant-loop-line l = l.waiting ≡ l.fn.waiting ++ bytes_to l.fn.number (take l.line-index l.fn.outputs)

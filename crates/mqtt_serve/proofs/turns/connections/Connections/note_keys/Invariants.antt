use Rattle.std.proofs.Common.{◌≡◌}
use Rattle.mqtt_serve.proofs.turns.connections.Connections.note_keys.Given as goal

abbrev pub invariant-loop-place : goal.invariant-loop-place
invariant-loop-place g l = l.self ≡ l.fn.self

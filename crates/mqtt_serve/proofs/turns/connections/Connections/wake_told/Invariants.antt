use Rattle.std.proofs.Common.{◌≡◌}
use Rattle.mqtt_serve.proofs.turns.connections.Connections.wake_told.Given as goal

abbrev pub invariant-loop-place : goal.invariant-loop-place
invariant-loop-place g l = l.self ≡ l.fn.self

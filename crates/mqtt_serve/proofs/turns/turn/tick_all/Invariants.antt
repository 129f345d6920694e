use Rattle.mqtt_serve.specs.turns.Turns.{server, TickedSoFar}
use Rattle.mqtt_serve.proofs.turns.turn.tick_all.Given as goal

abbrev pub invariant-loop : goal.invariant-loop
invariant-loop g l = TickedSoFar g.K.Keep l.fn.moment (server l.fn.engine l.fn.lines) l.counter (server l.engine l.lines)

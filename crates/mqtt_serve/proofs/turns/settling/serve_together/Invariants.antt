use Rattle.std.specs.Prelude.{true}
use Rattle.mqtt_serve.specs.turns.Settled.{RunsTogether}
use Rattle.mqtt_serve.specs.turns.Turns.{hosting}
use Rattle.mqtt_serve.proofs.turns.settling.serve_together.Given as goal

abbrev pub invariant-loop-before : goal.invariant-loop-before
invariant-loop-before g l =
    RunsTogether g.K.Keep l.fn.begin l.before l.last true (g.T.Timer.told l.fn.timer) (g.T.Timer.told l.timer) (hosting l.fn.engine l.fn.links)
    (hosting l.engine l.links)

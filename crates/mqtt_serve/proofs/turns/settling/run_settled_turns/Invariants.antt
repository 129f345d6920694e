use Rattle.mqtt_serve.specs.turns.Turns.{hosting}
use Rattle.mqtt_serve.proofs.turns_lemmas.Stretches.{StretchesSoFar}
use Rattle.mqtt_serve.proofs.turns.settling.run_settled_turns.Given as goal

abbrev pub invariant-loop-left : goal.invariant-loop-left
invariant-loop-left g l =
    StretchesSoFar g.K.Keep l.fn.begin l.fn.turns l.left l.last (g.T.Timer.told l.fn.timer) (g.T.Timer.told l.timer) (hosting l.fn.engine l.fn.links)
    (hosting l.engine l.links)

abbrev pub decreases-loop-left : goal.decreases-loop-left
decreases-loop-left g l = l.left

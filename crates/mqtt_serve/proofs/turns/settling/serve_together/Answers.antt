use Rattle.std.proofs.Common.{◌≡◌, Err, rules, arith}
use Rattle.mqtt_serve.proofs.turns_lemmas.Stretches.{together_all, together_more, together_none, together_on, together_until}
use Rattle.mqtt_serve.proofs.turns.settling.serve_together.Goals as goal

pub loop-before-init : goal.loop-before-init
loop-before-init g c = together_none

pub loop-before-preserved : goal.loop-before-preserved
loop-before-preserved g c =
    together_on (search rules) (together_more c.now-now.result c.loop-before.invariant c.now-now.ensures (search rules) c.pace_of-pace.ensures c.in_ok-busy.ensures.turn)

pub returns-then-not-goes_on-clause-turns : goal.returns-then-not-goes_on-clause-turns
returns-then-not-goes_on-clause-turns g c =
    together_more c.now-now.result c.loop-before.invariant c.now-now.ensures (search rules) c.pace_of-pace.ensures c.in_ok-busy.ensures.turn

pub returns-clause-turns : goal.returns-clause-turns
returns-clause-turns g c = together_all c.loop-before.invariant (omega arith)

pub returns-in_err-busy-clause-breaks : goal.returns-in_err-busy-clause-breaks
returns-in_err-busy-clause-breaks g c =
    let is : c.from_residual.result ≡ Err c.in_err-busy.field-0.0 = search rules in
    rw is (together_until c.now-now.result c.loop-before.invariant c.loop-before-test.true c.requires.few c.now-now.ensures (search rules) c.pace_of-pace.ensures c.in_err-busy.ensures.breaks)

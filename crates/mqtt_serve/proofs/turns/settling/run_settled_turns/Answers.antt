use Rattle.std.proofs.Common.{◌≡◌, Err, rules, arith, ap}
use Rattle.mqtt_serve.specs.turns.Turns.{hosting}
use Rattle.mqtt_serve.proofs.turns_lemmas.Stretches.{stretches_all, stretches_more, stretches_none, stretches_until}
use Rattle.mqtt_serve.proofs.turns.settling.run_settled_turns.Goals as goal

pub loop-left-init : goal.loop-left-init
loop-left-init g c = stretches_none

pub loop-left-preserved : goal.loop-left-preserved
loop-left-preserved g c =
    stretches_more _ c.loop-left.invariant c.in_ok-had.ensures.stretch (omega (arith, c.in_ok-had.ensures.within.1)) c.rest_behind.ensures.at_once (ap (hosting c.serve_stretch.new.engine) c.rest_behind.ensures.rests)

pub returns-clause-ran : goal.returns-clause-ran
returns-clause-ran g c = stretches_all c.loop-left.invariant (omega arith)

pub returns-in_err-had-clause-breaks : goal.returns-in_err-had-clause-breaks
returns-in_err-had-clause-breaks g c =
    let is : c.from_residual.result ≡ Err c.in_err-had.field-0.0 = search rules in
    rw is (stretches_until c.loop-left.invariant c.in_err-had.ensures.breaks)

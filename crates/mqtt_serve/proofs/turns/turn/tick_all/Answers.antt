use Rattle.std.proofs.Common.{◌≡◌, Err, rules, arith}
use Rattle.mqtt_serve.specs.turns.Turns.{server, no_tick, tick_after, last_tick, enough_ticks}
use Rattle.mqtt_serve.proofs.turns.turn.tick_all.Goals as goal

pub loop-init : goal.loop-init
loop-init g c = no_tick

pub loop-preserved : goal.loop-preserved
loop-preserved g c = tick_after c.loop.invariant (search rules)

pub returns-then-not-branch-clause-ticks : goal.returns-then-not-branch-clause-ticks
returns-then-not-branch-clause-ticks g c = last_tick c.loop.invariant c.loop-test.true (search rules)

pub returns-clause-ticks : goal.returns-clause-ticks
returns-clause-ticks g c = enough_ticks c.loop.invariant (omega arith)

pub returns-in_err-tick-clause-breaks : goal.returns-in_err-tick-clause-breaks
returns-in_err-tick-clause-breaks g c =
    let is : c.from_residual.result ≡ Err c.in_err-tick.field-0.0 = search rules in
    rw is (record {
      n = c.loop.counter;
      mid = server c.loop.engine c.loop.lines;
      so_far = c.loop.invariant;
      within = c.loop-test.true;
      refused = c.in_err-tick.ensures.breaks;
    })

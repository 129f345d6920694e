use Rattle.std.proofs.Common.{◌≡◌, Err, rules, refl, inl, inr}
use Rattle.mqtt_serve.specs.turns.Turns.{server}
use Rattle.mqtt_serve.proofs.turns.turn.serve_all.Goals as goal

pub returns-clause-serves : goal.returns-clause-serves
returns-clause-serves g c = record {
  served = server c.serve_lines.new.engine c.serve_lines.new.lines;
  ticked = server c.tick_all.new.engine c.tick_all.new.lines;
  serves = c.in_ok-moved.ensures.serves;
  ticks = c.in_ok-tick_all.ensures.ticks;
  writes = c.write_closed.ensures.writes;
  same = refl;
}

pub returns-in_err-moved-clause-breaks : goal.returns-in_err-moved-clause-breaks
returns-in_err-moved-clause-breaks g c =
    let is : c.from_residual.result ≡ Err c.in_err-moved.field-0.0 = search rules in
    rw is (inl c.in_err-moved.ensures.breaks)

pub returns-in_err-tick_all-clause-breaks : goal.returns-in_err-tick_all-clause-breaks
returns-in_err-tick_all-clause-breaks g c =
    let is : c.from_residual-in_err-tick_all.result ≡ Err c.in_err-tick_all.field-0.0 = search rules in
    rw is (inr (record {
      moved = c.in_ok-moved.moved;
      mid = server c.serve_lines.new.engine c.serve_lines.new.lines;
      serves = c.in_ok-moved.ensures.serves;
      breaks = c.in_err-tick_all.ensures.breaks;
    }))

use Rattle.std.proofs.Common.{◌≡◌, Err, rules, refl, ◌∙◌}
use Rattle.mqtt_serve.specs.turns.Turns.{server}
use Rattle.mqtt_serve.proofs.turns.settling.serve_unstored.Goals as goal

pub returns-clause-turn : goal.returns-clause-turn
returns-clause-turn g c =
    rw (← c.links.view_is) (record {
      came = c.accept-came.result;
      accepted = server c.accept-came.new.engine c.accept-came.new.lines;
      moved = c.in_ok-moved.moved;
      counted = c.serve_all.ensures.same ∙ c.accept-came.ensures.counted;
      accepts = c.accept-came.ensures.accepts;
      serves = c.in_ok-moved.ensures.serves;
      busy_is = refl;
    })

pub returns-in_err-moved-clause-breaks : goal.returns-in_err-moved-clause-breaks
returns-in_err-moved-clause-breaks g c =
    let is : c.from_residual.result ≡ Err c.in_err-moved.field-0.0 = search rules in
    rw (is, ← c.links.view_is) (record {
      came = c.accept-came.result;
      accepted = server c.accept-came.new.engine c.accept-came.new.lines;
      counted = c.serve_all.ensures.same ∙ c.accept-came.ensures.counted;
      accepts = c.accept-came.ensures.accepts;
      breaks = c.in_err-moved.ensures.breaks;
    })

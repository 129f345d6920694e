use Rattle.std.proofs.Common.{◌≡◌, Err, length, rules, arith, refl, ap, ◌∙◌}
use Rattle.mqtt_serve.specs.turns.Turns.{server, no_line, line_after}
use Rattle.mqtt_serve.proofs.turns_lemmas.Passing.{passes_to}
use Rattle.mqtt_serve.proofs.turns.turn.serve_lines.Goals as goal

pub loop-place-init : goal.loop-place-init
loop-place-init g c = record { len = ap length c.wake_told.ensures; within = omega arith; serves = rw c.wake_told.ensures no_line; same = refl }

pub loop-place-preserved : goal.loop-place-preserved
loop-place-preserved g c =
    let next = c.in-Some.ensures in
    let before = passes_to g.K.Keep _ _ _ _ _ _ (server c.loop-place.engine c.loop-place.lines) next.0 (omega (arith, next.1)) c.loop-place.invariant.serves next.2 next.3 in
    record {
      len = c.in_ok-busy.ensures.len ∙ c.loop-place.invariant.len;
      within = search rules;
      serves = rw c.behind-from.ensures (line_after before c.in_ok-busy.ensures.serves);
      same = c.in_ok-busy.ensures.same ∙ c.loop-place.invariant.same;
    }

pub returns-clause-serves : goal.returns-clause-serves
returns-clause-serves g c =
    let rest = c.in_default.ensures in
    rw (← c.loop-place.invariant.len) (passes_to g.K.Keep _ _ _ _ _ _ (server c.loop-place.engine c.loop-place.lines) c.loop-place.invariant.within (omega arith)
    c.loop-place.invariant.serves rest.0 rest.1)

pub returns-in_err-busy-clause-breaks : goal.returns-in_err-busy-clause-breaks
returns-in_err-busy-clause-breaks g c =
    let next = c.in-Some.ensures in
    let is : c.from_residual.result ≡ Err c.in_err-busy.field-0.0 = search rules in
    rw is (record {
      place = c.in-Some.place;
      moved = c.loop-place.busy;
      mid = server c.loop-place.engine c.loop-place.lines;
      serves = passes_to g.K.Keep _ _ _ _ _ _ (server c.loop-place.engine c.loop-place.lines) next.0 (omega (arith, next.1)) c.loop-place.invariant.serves next.2 next.3;
      within = search rules;
      breaks = c.in_err-busy.ensures.breaks;
    })

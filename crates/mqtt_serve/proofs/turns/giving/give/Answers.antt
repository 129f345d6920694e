use Rattle.std.proofs.Common.{Err, rules, arith, refl, ◌∙◌, inl, inr, subst, ◌≡◌, false}
use Rattle.mqtt_serve.specs.turns.Turns.{server, nothing_yet, piece_after, all_given, given_up, goes_on}
use Rattle.mqtt_serve.proofs.turns.giving.give.Goals as goal

pub loop-init : goal.loop-init
loop-init g c = record { len = refl; so_far = nothing_yet }

pub loop-preserved : goal.loop-preserved
loop-preserved g c = record {
  len = c.in_ok-taken.ensures.len ∙ c.loop.invariant.len;
  so_far = piece_after c.loop.invariant.so_far c.in_ok-taken.ensures.piece c.after-rest.ensures (search rules) (search rules);
}

pub returns-then-not-stands_at-clause-gives : goal.returns-then-not-stands_at-clause-gives
returns-then-not-stands_at-clause-gives g c = all_given c.loop.invariant.so_far c.loop-test.true
    (record { taken = c.in_ok-taken.taken; again = c.in_ok-taken.again; piece = c.in_ok-taken.ensures.piece; over = inl (search rules) })

pub returns-then-not-goes_on-clause-gives : goal.returns-then-not-goes_on-clause-gives
returns-then-not-goes_on-clause-gives g c = all_given c.loop.invariant.so_far c.loop-test.true
    (record {
      taken = c.in_ok-taken.taken;
      again = c.in_ok-taken.again;
      piece = c.in_ok-taken.ensures.piece;
      over = inr (subst (λ xs. goes_on c.in_ok-taken.again xs ≡ false) c.after-rest.ensures (search rules));
    })

pub returns-clause-gives : goal.returns-clause-gives
returns-clause-gives g c = given_up c.loop.invariant.so_far (omega arith) c.lose.ensures refl

pub returns-in_err-taken-clause-breaks : goal.returns-in_err-taken-clause-breaks
returns-in_err-taken-clause-breaks g c =
    let is : c.from_residual.result ≡ Err c.in_err-taken.field-0.0 = search rules in
    rw is (record {
      n = c.loop.counter;
      rest = c.loop.rest.now;
      mid = server c.loop.engine c.loop.lines;
      so_far = c.loop.invariant.so_far;
      within = c.loop-test.true;
      refused = c.in_err-taken.ensures.breaks;
    })

use Rattle.std.proofs.Common.{arith, refl, rules, ◌∙◌}
use Rattle.mqtt_serve.specs.turns.Settled.{none_yet, one_after}
use Rattle.mqtt_serve.proofs.turns_lemmas.Gaps.{lets_to}
use Rattle.mqtt_serve.proofs.turns.settling.let_go_all.Goals as goal

pub loop-place-init : goal.loop-place-init
loop-place-init g c = record { len = refl; within = omega arith; lets = none_yet; same = refl }

pub loop-place-preserved : goal.loop-place-preserved
loop-place-preserved g c =
    let next = c.in-Some.ensures in
    record {
      len = c.let_go_at-went.ensures.len ∙ c.loop-place.invariant.len;
      within = search rules;
      lets = rw c.behind-from.ensures (one_after (lets_to _ _ _ _ _ next.0 c.loop-place.invariant.lets next.2) c.let_go_at-went.ensures.lets);
      same = c.let_go_at-went.ensures.same ∙ c.loop-place.invariant.same;
    }

pub returns-clause-lets : goal.returns-clause-lets
returns-clause-lets g c =
    rw (← c.loop-place.invariant.len) (lets_to _ _ _ _ _ c.loop-place.invariant.within c.loop-place.invariant.lets c.in_default.ensures)

use Rattle.std.proofs.Common.{◌≡◌, ◌<◌, ◌≤◌, ◌-◌, true, false, sym, ap, ◌∙◌, arith}
use Rattle.mqtt_routes.specs.tree.Tree.{is_before, rest_of, levels_behind}
use Rattle.mqtt_routes.proofs.tree_lemmas.OrderLemmas.{before_earlier, behind_later}
use Rattle.mqtt_routes.proofs.tree.run.boundary.Goals.{then-run-via-then-run, then-run-via-else-run+then-not-is_before, then-also+then-from-run, else-also}
use Rattle.mqtt_routes.proofs.tree.run.boundary.Goals as goal

pub returns-then-run-clause-behind : goal.returns-then-run-clause-behind
returns-then-run-clause-behind g c = λ i a b.
    let texts = g.F.Filters.texts c.args.filters.now in
    let run = c.args.run in
    let test = is_before c.args.also c.args.level.now in
    elim c.then-run.branch [
      | then-run-via-then-run w ↦ absurd (omega (arith, a, b, w.if-run.true))
      | then-run-via-else-run+then-not-is_before w ↦
          behind_later c.args.also c.args.level.now (rest_of texts run run.from) (rest_of texts run i)
          (c.requires.run.ordered run.from i (omega arith) a b)
          (ap (λ t. test (levels_behind run.end t)) (sym w.text.ensures) ∙ sym w.is_before.ensures ∙ w.if-not-is_before.true)
    ]

pub returns-then-is_before-clause-before : goal.returns-then-is_before-clause-before
returns-then-is_before-clause-before g c = λ i a b.
    let texts = g.F.Filters.texts c.args.filters.now in
    let run = c.args.run in
    let test = is_before c.args.also c.args.level.now in
    let last = run.to - 1 in
    before_earlier c.args.also c.args.level.now (rest_of texts run i) (rest_of texts run last)
    (c.requires.run.ordered i last a (omega (arith, b)) (omega (arith, b)))
    (ap (λ t. test (levels_behind run.end t)) (sym c.text-2.ensures) ∙ sym c.is_before-2.ensures ∙ c.if-is_before.true)

pub loop-from-preserved-then-is_before-2 : goal.loop-from-preserved-then-is_before-2
loop-from-preserved-then-is_before-2 g c =
    let texts = g.F.Filters.texts c.args.filters.now in
    let l = c.loop-from in
    let m = c.if-also.middle in
    let run = c.args.run in
    let inside : (l.from ≤ m) × (m < l.to) = elim c.if-also.branch [
      | then-also+then-from-run w ↦ (omega (arith, w.middle-is, l.invariant.low), omega (arith, w.middle-is, w.if-from-run.true, c.loop-from-test.true, l.invariant.low))
      | else-also w ↦ (omega (arith, w.middle-is), omega (arith, w.middle-is, c.loop-from-test.true))
    ] in
    let at : is_before c.args.also c.args.level.now (rest_of texts run m) ≡ true =
    ap (λ t. is_before c.args.also c.args.level.now (levels_behind run.end t)) (sym c.text-in-loop-from.ensures) ∙ sym c.is_before-in-loop-from.ensures ∙ c.if-is_before-2.true
    in
    record {
      low = omega (arith, l.invariant.low, inside.0);
      order = omega (arith, inside.1);
      high = l.invariant.high;
      before = λ i a b. before_earlier c.args.also c.args.level.now (rest_of texts run i) (rest_of texts run m)
          (c.requires.run.ordered i m a (omega (arith, b)) (omega (arith, inside.1, l.invariant.high))) at;
      behind = l.invariant.behind;
    }

pub loop-from-preserved : goal.loop-from-preserved
loop-from-preserved g c =
    let texts = g.F.Filters.texts c.args.filters.now in
    let l = c.loop-from in
    let m = c.if-also.middle in
    let run = c.args.run in
    let inside : (l.from ≤ m) × (m < l.to) = elim c.if-also.branch [
      | then-also+then-from-run w ↦ (omega (arith, w.middle-is, l.invariant.low), omega (arith, w.middle-is, w.if-from-run.true, c.loop-from-test.true, l.invariant.low))
      | else-also w ↦ (omega (arith, w.middle-is), omega (arith, w.middle-is, c.loop-from-test.true))
    ] in
    let at : is_before c.args.also c.args.level.now (rest_of texts run m) ≡ false =
    ap (λ t. is_before c.args.also c.args.level.now (levels_behind run.end t)) (sym c.text-in-loop-from.ensures) ∙ sym c.is_before-in-loop-from.ensures ∙ c.if-is_before-2.false
    in
    record {
      low = l.invariant.low;
      order = inside.0;
      high = omega (arith, inside.1, l.invariant.high);
      before = l.invariant.before;
      behind = λ i a b. behind_later c.args.also c.args.level.now (rest_of texts run m) (rest_of texts run i)
          (c.requires.run.ordered m i (omega (arith, l.invariant.low, inside.0)) a b) at;
    }

use Rattle.std.proofs.Common.{◌≡◌, ℕ, ◌+◌, ◌&&◌, nat_eq, nat_lt, nat_le, count_by, ap, ◌∙◌, arith}
use Rattle.mqtt_routes.specs.tree.Tree.{once}
use Rattle.mqtt_routes.proofs.tree_lemmas.FoundLemmas.{count_push, one_longer, none_yet}
use Rattle.mqtt_routes.proofs.tree.run.push_all.Goals as goal

pub loop-number-init : goal.loop-number-init
loop-number-init c = λ i. let none = none_yet c.args.run.from i in omega (arith, none)

pub loop-number-preserved : goal.loop-number-preserved
loop-number-preserved c = λ i.
    let pushed = ap (count_by (nat_eq i)) c.in_ok-push.ensures.items in
    let one = count_push i c.loop-number.number c.loop-number.numbers.items in
    let longer = one_longer c.args.run.from c.loop-number.number i c.loop-number.auto.number in
    let so_far = c.loop-number.invariant i in
    omega (arith, pushed, one, longer, so_far)

pub returns : goal.returns
returns c = λ i.
    let ends : c.loop-number.number ≡ c.args.run.to = omega (arith, c.loop-number-test.false, c.loop-number.auto.number-end c.requires) in
    c.loop-number.invariant i ∙ ap (λ (n : ℕ). count_by (nat_eq i) c.args.numbers.now.items + once (nat_le c.args.run.from i && nat_lt i n)) ends

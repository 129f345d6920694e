use Rattle.std.proofs.Common.{◌≡◌, ℕ, Bool, ◌+◌, ◌&&◌, nat_eq, nat_lt, nat_le, count_by, ap, ◌∙◌, arith}
use Rattle.mqtt_topic.specs.names.Matching.{matches_levels}
use Rattle.mqtt_routes.specs.tree.Tree.{once, rest_of, levels_behind}
use Rattle.mqtt_routes.proofs.tree_lemmas.FoundLemmas.{one_tried, none_tried}
use Rattle.mqtt_routes.proofs.tree.walk.try_each.Goals as goal

pub loop-number-init : goal.loop-number-init
loop-number-init g c = λ i.
    let none = none_tried (λ n. matches_levels (rest_of (g.F.Filters.texts c.args.filters.now) c.args.run n) (levels_behind c.args.at c.args.name.now)) c.args.run.from i in
    omega (arith, none)

pub loop-number-preserved : goal.loop-number-preserved
loop-number-preserved g c = λ i.
    let test : ℕ → Bool = λ n. matches_levels (rest_of (g.F.Filters.texts c.args.filters.now) c.args.run n) (levels_behind c.args.at c.args.name.now) in
    let pushed = c.in_ok-push_if.ensures i in
    let own = levels_behind c.args.at c.args.name.now in
    let is =
    c.matches_behind.ensures
    ∙ ap (λ n. matches_levels (levels_behind c.args.run.end c.as_bytes-filter.result.now) (levels_behind c.args.at n)) c.as_bytes.ensures.value
    ∙ ap (λ t. matches_levels (levels_behind c.args.run.end t) own) (c.as_bytes-filter.ensures.value ∙ c.text.ensures)
    in
    let one = one_tried test c.args.run.from c.loop-number.number i c.loop-number.auto.number in
    let same = ap (λ b. once (nat_eq i c.loop-number.number && b)) is in
    let so_far = c.loop-number.invariant i in
    omega (arith, pushed, one, same, so_far)

pub returns : goal.returns
returns g c = λ i.
    let test : ℕ → Bool = λ n. matches_levels (rest_of (g.F.Filters.texts c.args.filters.now) c.args.run n) (levels_behind c.args.at c.args.name.now) in
    let ends : c.loop-number.number ≡ c.args.run.to = omega (arith, c.loop-number-test.false, c.loop-number.auto.number-end c.requires.some) in
    c.loop-number.invariant i ∙ ap (λ (n : ℕ). count_by (nat_eq i) c.args.found.now.items + once ((nat_le c.args.run.from i && nat_lt i n) && test i)) ends

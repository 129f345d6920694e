use Rattle.std.proofs.Common.{rules}
use Rattle.std.proofs.lemmas.List.Sorted.{IsNonDecreasingBy-from_sort_by_key}
use Rattle.mqtt_keep.specs.contents.Listed.{said}
use Rattle.mqtt_keep.proofs.contents_lemmas.Neighbours.{agree_says}
use Rattle.mqtt_keep.proofs.contents.contents.all_agree.Goals as goal

pub returns : goal.returns
returns c =
    let sorted = c.sort_unstable_by_key.ensures in
    let says = agree_says said c.args.messages.now c.sort_unstable_by_key.new.self sorted.permutation (IsNonDecreasingBy-from_sort_by_key (λ p. p.0) _ sorted.sorted (λ a r q k. search rules)) in
    let near = c.neighbours_agree.ensures in
    (λ t. says.0 (near.0 t), λ all. near.1 (says.1 all))

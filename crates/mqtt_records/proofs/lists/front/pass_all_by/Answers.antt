use Rattle.std.proofs.Common.{◌≡◌, ◌∙◌, ◌+◌, ◌++◌, suc, length, map, take, drop, ap, arith}
use Rattle.std.specs.Prelude.{remove, List}
use Rattle.mqtt_records.proofs.lists_lemmas.FrontLemmas.{drop_further, take_further}
use Rattle.mqtt_records.proofs.lists.front.pass_all_by.Goals as goal

pub returns-clause-rest : goal.returns-clause-rest
returns-clause-rest g c =
    let len = c.split_at_mut-behind.ensures.front_len in
    let more : c.args.gone + 1 ≡ suc (length c.split_at_mut-behind.result.0.now) = omega (arith, len) in
    drop_further (c.args.gone + 1) _ _ more ∙ (c.bring_to_front.ensures.rest ∙ ap (λ (xs : List g.row.R.Denot). remove xs c.args.place) c.split_at_mut-behind.ensures.back)

pub returns-clause-slim : goal.returns-clause-slim
returns-clause-slim g c =
    let front = c.split_at_mut-behind.result.0.now in
    let len = c.split_at_mut-behind.ensures.front_len in
    let more : c.args.gone + 1 ≡ suc (length front) = omega (arith, len) in
    let slim = λ (xs : List g.row.R.Denot). map g.R.Slimmable.slimmed (take 1 (drop c.args.place xs)) in
    take_further (c.args.gone + 1) front c.bring_to_front.new.rows more
    ∙ (ap (λ (xs : List g.row.R.Denot). front ++ xs) (c.bring_to_front.ensures.slim ∙ ap slim c.split_at_mut-behind.ensures.back)
    ∙ ap (λ (xs : List g.row.R.Denot). xs ++ slim (drop c.args.gone c.args.rows.now)) c.split_at_mut-behind.ensures.front)

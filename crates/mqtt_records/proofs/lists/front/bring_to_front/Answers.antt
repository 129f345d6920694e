use Rattle.std.proofs.Common.{◌≡◌, ◌<◌, ◌-◌, ◌+◌, suc, ℕ, List, ◌++◌, length, drop, take, ap, ◌∙◌, arith}
use Rattle.std.specs.Prelude.{slice_set}
use Rattle.std.proofs.lemmas.List.{length-set}
use Rattle.mqtt_records.proofs.lists_lemmas.FrontLemmas.{turned, remove_set}
use Rattle.mqtt_records.proofs.lists.front.bring_to_front.Goals as goal

pub returns-clause-rest : goal.returns-clause-rest
returns-clause-rest g c =
    let place = c.args.place in
    let xs = slice_set c.args.rows.now place c.leave_out.new.self in
    let before = c.split_at_mut-before.result.0.now in
    let behind = c.split_at_mut-before.result.1.now in
    let same = length-set c.args.rows.now place c.leave_out.new.self in
    let within = c.requires in
    let there : place < length xs = omega (arith, same, within) in
    let next : place + 1 ≡ suc place = omega arith in
    let len = c.split_at_mut-before.ensures.front_len in
    let at : length before - 1 ≡ place = omega (arith, len) in
    let front = c.split_at_mut-before.ensures.front ∙ ap (λ (n : ℕ). take n xs) next in
    let back = c.split_at_mut-before.ensures.back ∙ ap (λ (n : ℕ). drop n xs) next in
    let one = c.rotate_right.ensures.after ∙ (ap (λ (n : ℕ). drop n before ++ take n before) at ∙ ap (λ (l : List g.row.R.Denot). drop place l ++ take place l) front) in
    ap (λ (l : List g.row.R.Denot). drop 1 (l ++ behind)) one
    ∙ (ap (λ (l : List g.row.R.Denot). drop 1 ((drop place (take (suc place) xs) ++ take place (take (suc place) xs)) ++ l)) back
    ∙ (turned place xs there ∙ remove_set place c.args.rows.now c.leave_out.new.self))

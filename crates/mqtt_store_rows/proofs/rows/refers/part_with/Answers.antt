use Rattle.std.proofs.Common.{◌≡◌, List, sym, subst, ◌∙◌}
use Rattle.sqlite_value.specs.Order.{Row}
use Rattle.mqtt_store_rows.specs.values.Lists.{AreRows}
use Rattle.mqtt_store_rows.proofs.rows_lemmas.TakenLemmas.{same_taken}
use Rattle.mqtt_store_rows.proofs.rows.refers.part_with.Goals as goal

pub returns-clause-err : goal.returns-clause-err
returns-clause-err g c e all rest taken list =
    let part = c.in_ok-part.part.items in
    let found = c.in_ok-part.ensures in
    let same : part ≡ taken.takes.front = same_taken c.args.birth c.args.rows.now.items part c.take_rows.new.rows.items taken.takes.front rest found.parts found.mine found.rest taken.takes.parts taken.takes.mine taken.ends in
    let whole : c.deref.result.now ≡ taken.takes.front = c.deref.ensures.value ∙ same in
    c.all_with-all.ensures.err e all (subst (λ (l : List Row). AreRows (g.P.Refers.says c.args.messages.now) l all) (sym whole) taken.takes.are) list

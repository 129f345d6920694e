use Rattle.std.proofs.Common.{◌≡◌, List, take, sym, ap, subst}
use Rattle.std.specs.Prelude.{Err}
use Rattle.sqlite_value.specs.Order.{Row}
use Rattle.mqtt_keep.specs.declared.keeping.keep.KeepError.{KeepError}
use Rattle.mqtt_store_rows.specs.values.Lists.{AreRows}
use Rattle.mqtt_store_rows.proofs.values_lemmas.ListLemmas.{same_front}
use Rattle.mqtt_store_rows.proofs.values.lists.part_of.Goals as goal

pub returns-in-Err-clause-err : goal.returns-in-Err-clause-err
returns-in-Err-clause-err g c e all rest taken list =
    let rows = c.args.rows.now in
    let same : c.in-Err.fault ≡ KeepError.Corrupt = cc in
    let found = c.front_of-count.ensures in
    let whole : take c.front_of-count.result rows ≡ taken.takes.front = same_front c.args.birth c.front_of-count.result rows taken.takes.front rest taken.takes.parts taken.takes.mine taken.ends found.within found.mine found.rest in
    c.in-Err.ensures.err (ap Err same) all (subst (λ (l : List Row). AreRows g.P.Stored.says l all) (sym whole) taken.takes.are) list

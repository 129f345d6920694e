use Rattle.std.proofs.Common.{◌≡◌, ◌+◌, [], ◌∷◌, ◌++◌, List, take, drop, ap, subst}
use Rattle.std.specs.Prelude.{Err}
use Rattle.std.proofs.lemmas.List.{take_all}
use Rattle.sqlite_value.specs.Order.{Row}
use Rattle.mqtt_keep.specs.declared.keeping.keep.KeepError.{KeepError}
use Rattle.mqtt_store_rows.specs.values.Lists.{AreRows}
use Rattle.mqtt_store_rows.proofs.values_lemmas.ListLemmas.{are_more, are_at, seam}
use Rattle.mqtt_store_database.specs.telling.Said.{SaysCopyContent}
use Rattle.mqtt_store_database.proofs.telling.reading.contents_of.Goals as goal

pub returns-in-Err-clause-err : goal.returns-in-Err-clause-err
returns-in-Err-clause-err c e all are =
    let rows = c.args.rows.now in
    let i = c.loop-row.row-index in
    let row = c.row-item.result in
    let parts = seam rows i row c.loop-row-test.true c.row-item.is in
    let it = are_at SaysCopyContent (take i rows) row (drop (i + 1) rows) all (subst (λ (l : List Row). AreRows SaysCopyContent l all) parts are) in
    let same : c.in-Err.fault ≡ KeepError.Corrupt = cc in
    c.in-Err.ensures.err (ap Err same) it.0 it.1

pub loop-row-preserved : goal.loop-row-preserved
loop-row-preserved c =
    let rows = c.args.rows.now in
    let all = c.loop-row.all.items in
    let item = c.in-Ok.content in
    let is : c.push.new.self.items ≡ all ++ item ∷ [] = c.in-Ok-push.ensures.items in
    rw is record {
      are = are_more SaysCopyContent rows all c.loop-row.row-index c.row-item.result item c.loop-row-test.true c.row-item.is c.loop-row.invariant.are c.in-Ok.ensures.ok;
    }

pub returns-clause-ok : goal.returns-clause-ok
returns-clause-ok c =
    let rows = c.args.rows.now in
    let whole : take c.loop-row.row-index rows ≡ rows = take_all c.loop-row.row-index rows c.loop-row-test.false in
    subst (λ (l : List Row). AreRows SaysCopyContent l c.loop-row.all.items) whole c.loop-row.invariant.are

use Rattle.std.proofs.Common.{◌≡◌, ◌+◌, ◌<◌, [], ◌∷◌, ◌++◌, List, length, take, drop, sym, ap, subst, ◌∙◌, arith}
use Rattle.std.specs.Prelude.{Err}
use Rattle.mqtt_keep.specs.declared.keeping.keep.KeepError.{KeepError}
use Rattle.std.proofs.lemmas.List.{length-take-le, take_all}
use Rattle.sqlite_value.specs.Order.{Row}
use Rattle.mqtt_store_rows.specs.values.Lists.{AreRows}
use Rattle.mqtt_store_rows.proofs.values_lemmas.ListLemmas.{are_more, are_at, same_length, last_push, below_push, below_less, above_zero, ascending_push, rises, seam}
use Rattle.mqtt_store_rows.proofs.rows.refers.all_with.Goals as goal

pub returns-then-rows-clause-err : goal.returns-then-rows-clause-err
returns-then-rows-clause-err g c e all are list =
    let long = c.if-rows.true in
    let same = same_length (g.P.Refers.says c.args.messages.now) c.args.rows.now all are in
    let short = list.within in
    omega (arith, long, same, short)

pub returns-in-Err-clause-err : goal.returns-in-Err-clause-err
returns-in-Err-clause-err g c e all are list =
    let rows = c.args.rows.now in
    let i = c.loop-row.row-index in
    let row = c.row-item.result in
    let parts = seam rows i row c.loop-row-test.true c.row-item.is in
    let it = are_at (g.P.Refers.says c.args.messages.now) (take i rows) row (drop (i + 1) rows) all (subst (λ (l : List Row). AreRows (g.P.Refers.says c.args.messages.now) l all) parts are) in
    let same : c.in-Err.fault ≡ KeepError.Corrupt = cc in
    c.in-Err.ensures.err (ap Err same) it.0 it.1

pub returns-then-key-last-clause-err : goal.returns-then-key-last-clause-err
returns-then-key-last-clause-err g c e all are list =
    let rows = c.args.rows.now in
    let i = c.loop-row.row-index in
    let row = c.row-item.result in
    let parts = seam rows i row c.loop-row-test.true c.row-item.is in
    let more = rises g.P.Row.key_of (g.P.Refers.says c.args.messages.now) (g.met.P.Refers.one c.args.messages.now) 0 (take i rows) row (drop (i + 1) rows) c.loop-row.all all c.in-Ok.item c.loop-row.invariant.are
    (subst (λ (l : List Row). AreRows (g.P.Refers.says c.args.messages.now) l all) parts are) c.in-Ok.ensures.ok (above_zero g.P.Row.key_of (g.P.Refers.says c.args.messages.now) (g.met.P.Refers.from_one c.args.messages.now) rows all are) list.ascending in
    let last = c.loop-row.invariant.last in
    let key = c.key-key.ensures in
    let le = c.if-key-last.true in
    omega (arith, more, last, key, le)

pub loop-row-preserved : goal.loop-row-preserved
loop-row-preserved g c =
    let rows = c.args.rows.now in
    let i = c.loop-row.row-index in
    let all = c.loop-row.all in
    let item = c.in-Ok.item in
    let within = c.loop-row-test.true in
    let short = c.if-rows.false in
    let less : c.loop-row.last < g.P.Row.key_of item = let le = c.if-key-last.false in let key = c.key-key.ensures in omega (arith, le, key) in
    let count : length all ≡ i = same_length (g.P.Refers.says c.args.messages.now) (take i rows) all c.loop-row.invariant.are ∙ length-take-le i rows (omega (arith, within)) in
    let room : length all < g.row.LIMIT = omega (arith, count, within, short) in
    let is : c.put.new.self ≡ all ++ item ∷ [] =
    c.put.ensures ∙ c.newest_comes_last.ensures g.row.LIMIT item all (below_less g.P.Row.key_of c.loop-row.last (g.P.Row.key_of item) all c.loop-row.invariant.low less) room in
    rw (is, c.key-key.ensures) record {
      are = are_more (g.P.Refers.says c.args.messages.now) rows all i c.row-item.result item within c.row-item.is c.loop-row.invariant.are c.in-Ok.ensures.ok;
      last = sym (last_push g.P.Row.key_of 0 all item);
      order = ascending_push g.P.Row.key_of all item c.loop-row.invariant.order (below_less g.P.Row.key_of c.loop-row.last (g.P.Row.key_of item) all c.loop-row.invariant.low less);
      low = below_push g.P.Row.key_of c.loop-row.last all item c.loop-row.invariant.low less;
    }

pub returns-clause-ok : goal.returns-clause-ok
returns-clause-ok g c =
    let rows = c.args.rows.now in
    let i = c.loop-row.row-index in
    let whole : take i rows ≡ rows = take_all i rows c.loop-row-test.false in
    subst (λ (l : List Row). AreRows (g.P.Refers.says c.args.messages.now) l c.loop-row.all) whole c.loop-row.invariant.are

pub returns-clause-within : goal.returns-clause-within
returns-clause-within g c =
    let rows = c.args.rows.now in
    let i = c.loop-row.row-index in
    let whole : take i rows ≡ rows = take_all i rows c.loop-row-test.false in
    let are = subst (λ (l : List Row). AreRows (g.P.Refers.says c.args.messages.now) l c.loop-row.all) whole c.loop-row.invariant.are in
    let same = same_length (g.P.Refers.says c.args.messages.now) rows c.loop-row.all are in
    let short = c.if-rows.false in
    record { ascending = c.loop-row.invariant.order; within = omega (arith, same, short) }

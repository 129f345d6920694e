use Rattle.std.proofs.Common.{◌<◌, ◌≤◌, ◌+◌, length, drop, refl, ap, ◌∙◌, arith}
use Rattle.mqtt_records.proofs.lists_lemmas.FrontLemmas.{drop_insert, drop_set, drop_length}
use Rattle.mqtt_records.proofs.lists_lemmas.OrderLemmas.{put_found, put_new, missed_within}
use Rattle.mqtt_records.proofs.lists.rows.put_in.Goals as goal

pub insert_in-requires-clause-place : goal.insert_in-requires-clause-place
insert_in-requires-clause-place g c =
    let rows = drop c.args.gone c.args.rows.now.items in
    let missed = rw (c.behind.ensures, c.deref.ensures.value) at c.in-Err.ensures in
    let within : c.in-Err.place ≤ length rows = missed_within g.R.Row.key_of c.key.result rows c.in-Err.place missed in
    let front : c.args.gone ≤ length c.args.rows.now.items = omega (arith, c.requires.gone) in
    let all = drop_length c.args.gone c.args.rows.now.items front in
    omega (arith, within, all)

pub overflow_add-gone-then-len-gone : goal.overflow_add-gone-then-len-gone
overflow_add-gone-then-len-gone g c =
    let rows = drop c.args.gone c.args.rows.now.items in
    let missed = rw (c.behind.ensures, c.deref.ensures.value) at c.in-Err.ensures in
    let within : c.in-Err.place ≤ length rows = missed_within g.R.Row.key_of c.key.result rows c.in-Err.place missed in
    let front : c.args.gone ≤ length c.args.rows.now.items = omega (arith, c.requires.gone) in
    let all = drop_length c.args.gone c.args.rows.now.items front in
    omega (arith, within, all, c.len.ensures, c.len.type_inv)

pub returns-in-Ok-clause-items : goal.returns-in-Ok-clause-items
returns-in-Ok-clause-items g c =
    let gone = c.args.gone in
    let rows = drop gone c.args.rows.now.items in
    let found = rw (c.behind.ensures, c.deref.ensures.value, c.key.ensures) at c.in-Ok.ensures in
    drop_set gone c.in-Ok.place (gone + c.in-Ok.place) c.args.rows.now.items c.args.row refl ∙ put_found g.R.Row.key_of c.args.limit c.args.row rows c.in-Ok.place c.requires.order found

pub returns-then-len-gone-clause-items : goal.returns-then-len-gone-clause-items
returns-then-len-gone-clause-items g c =
    let gone = c.args.gone in
    let rows = drop gone c.args.rows.now.items in
    let missed = rw (c.behind.ensures, c.deref.ensures.value, c.key.ensures) at c.in-Err.ensures in
    let front : gone ≤ length c.args.rows.now.items = omega (arith, c.requires.gone) in
    let all = drop_length gone c.args.rows.now.items front in
    let less : length rows < c.args.limit = omega (arith, all, c.len.ensures, c.if-len-gone.true) in
    ap (drop gone) c.insert_in.ensures.items ∙ (drop_insert gone c.in-Err.place (gone + c.in-Err.place) c.args.rows.now.items c.args.row refl front ∙ put_new g.R.Row.key_of c.args.limit c.args.row rows c.in-Err.place missed less)

use Rattle.std.proofs.Common.{◌≡◌, ◌++◌, List, [], IsTrue, ap, ◌∙◌, rules}
use Rattle.sqlite_value.specs.declared.value.ValueRef.{ValueRef}
use Rattle.sqlite.specs.Values.{bound}
use Rattle.mqtt_store_tables.specs.together.Together.{coming_rows}
use Rattle.mqtt_store_database.proofs.committing_lemmas.Further.{four_written}
use Rattle.mqtt_store_database.proofs.committing.together.write_four.Goals as goal

pub returns-in-Ok-true-clause-put : goal.returns-in-Ok-true-clause-put
returns-in-Ok-true-clause-put g c =
    let did : IsTrue c.in-Ok-true.field-0 = search rules in
    let more = c.in-Ok-true.ensures did in
    let none : c.in-Ok.columns.items ≡ [] = search rules in
    let rows : bound c.as_slice.result.now ≡ coming_rows more.0 = ap bound c.as_slice.ensures.value ∙ (more.2 ∙ ap (λ (items : List ValueRef). bound items ++ coming_rows more.0) none) in
    four_written g.S.Store c.args.tx.now.conn.now c.insert_four-written.new.tx.conn.now c.insert_four-written.result c.args.known c.args.one.now c.args.two.now c.args.three.now c.args.four.now (bound c.as_slice.result.now)
    (more.0, more.1, rows) c.insert_four-written.ensures.put

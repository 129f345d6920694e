use Rattle.std.proofs.Common.{arith, w64, pos, subst, OnOk}
use Rattle.std.proofs.lemmas.Int.{to_z-of_z}
use Rattle.sqlite.specs.Held.{state}
use Rattle.mqtt_store_tables.proofs.forms_lemmas.Kept.{stays_inside}
use Rattle.mqtt_store_tables.specs.statements.Content.{is_of, IsWhole}
use Rattle.mqtt_store_tables.specs.statements.Columns.{WillColumns, will_row}
use Rattle.mqtt_store_tables.specs.statements.Put.{PutsInto}
use Rattle.mqtt_store_tables.proofs.statements_lemmas.tables.Fresh.{flag_is}
use Rattle.mqtt_store_tables.proofs.statements_lemmas.puts.PutWill.{puts}
use Rattle.mqtt_store_tables.proofs.statements.wills.put_will.Goals as goal

pub returns-clause-put : goal.returns-clause-put
returns-clause-put g c l asked clean whole =
    let old = state g.S.Store c.args.tx.now.conn.now in
    let new = state g.S.Store c.execute.new.self.conn.now in
    subst (λ (w : WillColumns). OnOk c.execute.result (PutsInto l 4 (will_row c.args.birth w) (is_of 0 (pos c.args.birth)) old.now.trees new.now.trees) × OnOk c.execute.result (IsWhole l new)) c.will.view_is
    (puts l asked c.args.birth _ old new c.execute.result whole
    (rw (
      c.params-to_sql.ensures,
      c.params-to_sql-2.ensures,
      c.params-to_sql-3.ensures,
      c.params-to_sql-4.ensures,
      c.params-to_sql-5.ensures,
      c.params-to_sql-6.ensures,
      c.params-to_sql-7.ensures,
      c.whole-birth.ensures,
      c.from-qos.ensures,
      to_z-of_z w64 (pos c.args.birth) (omega arith),
      flag_is c.will.inside.retain,
    ) at (c.execute.ensures.runs clean whole.inside)))

pub returns-clause-inside : goal.returns-clause-inside
returns-clause-inside g c = stays_inside g.S.Store _ _ _ _ c.execute.result c.execute.ensures.ended c.execute.ensures.runs c.execute.ensures.survives

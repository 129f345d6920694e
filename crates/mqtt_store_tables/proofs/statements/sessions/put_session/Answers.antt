use Rattle.std.proofs.Common.{arith, w64, pos, subst, OnOk}
use Rattle.std.proofs.lemmas.Int.{to_z-of_z}
use Rattle.sqlite.specs.Held.{state}
use Rattle.mqtt_store_tables.proofs.forms_lemmas.Kept.{stays_inside}
use Rattle.mqtt_store_tables.specs.statements.Content.{is_of, IsWhole}
use Rattle.mqtt_store_tables.specs.statements.Columns.{SessionColumns, session_row}
use Rattle.mqtt_store_tables.specs.statements.Put.{PutsInto}
use Rattle.mqtt_store_tables.proofs.statements_lemmas.tables.Numbers.{bound_is}
use Rattle.mqtt_store_tables.proofs.statements_lemmas.puts.PutSession.{puts}
use Rattle.mqtt_store_tables.proofs.statements.sessions.put_session.Goals as goal

pub returns-clause-put : goal.returns-clause-put
returns-clause-put g c l ours clean whole =
    let old = state g.S.Store c.args.tx.now.conn.now in
    let new = state g.S.Store c.execute.new.self.conn.now in
    subst (λ (s : SessionColumns). OnOk c.execute.result (PutsInto l 2 (session_row c.args.birth s) (is_of 0 (pos c.args.birth)) old.now.trees new.now.trees) × OnOk c.execute.result (IsWhole l new)) c.session.view_is
    (puts l ours c.args.birth _ old new c.execute.result whole
    (rw (
      c.params-to_sql.ensures,
      c.params-to_sql-2.ensures,
      c.params-to_sql-3.ensures,
      c.params-to_sql-4.ensures,
      c.whole-birth.ensures,
      c.whole_or_none-closed.ensures,
      to_z-of_z w64 (pos c.args.birth) (omega arith),
      bound_is c.session.inside.closed,
    ) at (c.execute.ensures.runs clean whole.inside)))

pub returns-clause-inside : goal.returns-clause-inside
returns-clause-inside g c = stays_inside g.S.Store _ _ _ _ c.execute.result c.execute.ensures.ended c.execute.ensures.runs c.execute.ensures.survives

use Rattle.std.proofs.Common.{arith, w64, pos, subst, OnOk}
use Rattle.std.proofs.lemmas.Int.{to_z-of_z}
use Rattle.sqlite.specs.Held.{state}
use Rattle.mqtt_store_tables.proofs.forms_lemmas.Kept.{stays_inside}
use Rattle.mqtt_store_tables.specs.statements.Layout.{second_layout}
use Rattle.mqtt_store_tables.specs.statements.Content.{IsWhole}
use Rattle.mqtt_store_tables.specs.messages.Rows.{MessageColumns, message_row}
use Rattle.mqtt_store_tables.specs.messages.Messages.{PutsMessage}
use Rattle.mqtt_store_tables.proofs.messages_lemmas.PutMessage.{puts}
use Rattle.mqtt_store_tables.proofs.messages.messages.put_message.Goals as goal

pub returns-clause-put : goal.returns-clause-put
returns-clause-put g c making clean whole =
    let old = state g.S.Store c.args.tx.now.conn.now in
    let new = state g.S.Store c.execute.new.self.conn.now in
    subst (λ (m : MessageColumns). OnOk c.execute.result (PutsMessage making (pos c.args.publication) (message_row c.args.publication m) old.now.trees new.now.trees) × OnOk c.execute.result (IsWhole (second_layout making) new)) c.message.view_is
    (puts making c.args.publication _ old new c.execute.result whole
    (rw (
      c.params-to_sql.ensures,
      c.params-to_sql-2.ensures,
      c.params-to_sql-3.ensures,
      c.params-to_sql-4.ensures,
      c.whole-publication.ensures,
      to_z-of_z w64 (pos c.args.publication) (omega arith),
    ) at (c.execute.ensures.runs clean whole.inside)))

pub returns-clause-inside : goal.returns-clause-inside
returns-clause-inside g c = stays_inside g.S.Store _ _ _ _ c.execute.result c.execute.ensures.ended c.execute.ensures.runs c.execute.ensures.survives

use Rattle.std.proofs.Common.{arith, w64, pos, ap, subst, OnOk}
use Rattle.std.proofs.lemmas.Int.{to_z-of_z}
use Rattle.sqlite.specs.Held.{state}
use Rattle.mqtt_store_tables.proofs.forms_lemmas.Kept.{stays_inside}
use Rattle.mqtt_store_tables.specs.statements.Layout.{second_layout}
use Rattle.mqtt_store_tables.specs.statements.Content.{IsWhole}
use Rattle.mqtt_store_tables.specs.statements.Put.{PutsInto, is_retained}
use Rattle.mqtt_store_tables.specs.messages.Places.{kept_tree}
use Rattle.mqtt_store_tables.specs.messages.Rows.{KeptColumns, kept_row}
use Rattle.mqtt_store_tables.proofs.messages_lemmas.PutKept.{puts}
use Rattle.mqtt_store_tables.proofs.messages.kept.put_kept.Goals as goal

pub returns-clause-put : goal.returns-clause-put
returns-clause-put g c making clean whole =
    let old = state g.S.Store c.args.tx.now.conn.now in
    let new = state g.S.Store c.execute.new.self.conn.now in
    let publication = ap (λ (m : KeptColumns). m.publication) c.kept.view_is in
    let arrived = ap (λ (m : KeptColumns). m.arrived) c.kept.view_is in
    subst (λ (m : KeptColumns). OnOk c.execute.result (PutsInto (second_layout making) (kept_tree making) (kept_row c.args.place m) (is_retained c.args.place m.topic) old.now.trees new.now.trees) × OnOk c.execute.result (IsWhole (second_layout making) new)) c.kept.view_is
    (puts making c.args.place _ old new c.execute.result whole
    (rw (
      c.params-to_sql.ensures,
      c.params-to_sql-2.ensures,
      c.params-to_sql-3.ensures,
      c.params-to_sql-4.ensures,
      c.params-to_sql-5.ensures,
      c.params-to_sql-6.ensures,
      c.whole-place.ensures,
      c.whole-publication.ensures,
      c.whole-arrived.ensures,
      c.from-qos.ensures,
      to_z-of_z w64 (pos c.args.place) (omega arith),
      to_z-of_z w64 (pos c.kept.inside.publication) (omega (arith, publication)),
      to_z-of_z w64 (pos c.kept.inside.arrived) (omega (arith, arrived)),
    ) at (c.execute.ensures.runs clean whole.inside)))

pub returns-clause-inside : goal.returns-clause-inside
returns-clause-inside g c = stays_inside g.S.Store _ _ _ _ c.execute.result c.execute.ensures.ended c.execute.ensures.runs c.execute.ensures.survives

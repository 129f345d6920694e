use Rattle.std.proofs.Common.{arith, w64, pos, refl, ap, subst}
use Rattle.std.proofs.lemmas.Int.{to_z-of_z}
use Rattle.sqlite.specs.State.{ExecutesInside}
use Rattle.sqlite.specs.Held.{state}
use Rattle.mqtt_store_tables.proofs.forms_lemmas.Kept.{stays_inside}
use Rattle.mqtt_store_tables.proofs.statements_lemmas.tables.Fresh.{flag_is}
use Rattle.mqtt_store_tables.proofs.statements_lemmas.tables.Numbers.{bound_is}
use Rattle.mqtt_store_tables.specs.messages.Rows.{QueuedColumns, queued_row}
use Rattle.mqtt_store_tables.proofs.messages_lemmas.Refused.{runs_on}
use Rattle.mqtt_store_tables.proofs.messages.queued.run_on_columns.Goals as goal

pub returns-clause-runs : goal.returns-clause-runs
returns-clause-runs g c clean inside =
    let old = state g.S.Store c.args.tx.now.conn.now in
    let new = state g.S.Store c.execute.new.self.conn.now in
    let w = c.copy.inside in
    let publication = ap (λ (m : QueuedColumns). m.publication) c.copy.view_is in
    let cause_n = ap (λ (m : QueuedColumns). m.cause_n) c.copy.view_is in
    let arrived = ap (λ (m : QueuedColumns). m.arrived) c.copy.view_is in
    subst (λ (m : QueuedColumns). ExecutesInside 0 c.args.sql.now (queued_row c.args.birth c.args.place m) old new c.execute.result) c.copy.view_is
    (runs_on c.args.sql.now old new c.execute.result _ (c.execute.ensures.runs clean inside)
    (rw (c.params-to_sql.ensures, c.params-to_sql-2.ensures, c.params-to_sql-3.ensures, c.params-to_sql-4.ensures, c.params-to_sql-5.ensures)
    (rw (c.params-to_sql-6.ensures, c.params-to_sql-7.ensures, c.params-to_sql-8.ensures, c.params-to_sql-9.ensures)
    (rw (c.params-to_sql-10.ensures, c.params-to_sql-11.ensures, c.params-to_sql-12.ensures, c.params-to_sql-13.ensures)
    (rw (c.whole-birth.ensures, c.whole-place.ensures, c.whole-publication.ensures, c.from-cause.ensures, c.whole-cause_n.ensures)
    (rw (c.whole_or_none-identifier.ensures, c.from-phase.ensures, c.whole_or_none-order.ensures, c.from-qos.ensures, c.whole-arrived.ensures)
    (rw (
      to_z-of_z w64 (pos c.args.birth) (omega arith),
      to_z-of_z w64 (pos c.args.place) (omega arith),
      to_z-of_z w64 (pos w.publication) (omega (arith, publication)),
      to_z-of_z w64 (pos w.cause_n) (omega (arith, cause_n)),
      to_z-of_z w64 (pos w.arrived) (omega (arith, arrived)),
      bound_is w.identifier,
      bound_is w.order,
      flag_is w.retain,
    ) refl)))))))

pub returns-clause-inside : goal.returns-clause-inside
returns-clause-inside g c = stays_inside g.S.Store _ _ _ _ c.execute.result c.execute.ensures.ended c.execute.ensures.runs c.execute.ensures.survives

use Rattle.std.proofs.Common.{arith, w64, pos}
use Rattle.std.proofs.lemmas.Int.{to_z-of_z}
use Rattle.sqlite.specs.Held.{state}
use Rattle.mqtt_store_tables.proofs.forms_lemmas.Kept.{stays_inside}
use Rattle.mqtt_store_tables.proofs.statements_lemmas.tables.Fresh.{flag_is}
use Rattle.mqtt_store_tables.proofs.statements_lemmas.puts.PutSubscription.{puts}
use Rattle.mqtt_store_tables.proofs.statements.subscriptions.put_subscription.Goals as goal

pub returns-clause-put : goal.returns-clause-put
returns-clause-put g c l asked clean whole =
    let old = state g.S.Store c.args.tx.now.conn.now in
    let new = state g.S.Store c.execute.new.self.conn.now in
    (puts l asked c.args.birth c.args.filter.now c.args.subscription.now old new c.execute.result whole
    (rw (
      c.params-to_sql.ensures,
      c.params-to_sql-2.ensures,
      c.params-to_sql-3.ensures,
      c.params-to_sql-4.ensures,
      c.params-to_sql-5.ensures,
      c.params-to_sql-6.ensures,
      c.params-to_sql-7.ensures,
      c.params-to_sql-8.ensures,
      c.whole-birth.ensures,
      c.whole-place.ensures,
      c.from-qos.ensures,
      c.from-handling.ensures,
      to_z-of_z w64 (pos c.args.birth) (omega arith),
      to_z-of_z w64 (pos c.args.subscription.now.place) (omega arith),
      flag_is c.args.subscription.now.no_local,
      flag_is c.args.subscription.now.retain_as_published,
    ) at (c.execute.ensures.runs clean whole.inside)))

pub returns-clause-inside : goal.returns-clause-inside
returns-clause-inside g c = stays_inside g.S.Store _ _ _ _ c.execute.result c.execute.ensures.ended c.execute.ensures.runs c.execute.ensures.survives

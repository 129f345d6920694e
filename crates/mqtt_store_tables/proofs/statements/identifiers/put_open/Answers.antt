use Rattle.std.proofs.Common.{arith, w64, pos}
use Rattle.std.proofs.lemmas.Int.{to_z-of_z}
use Rattle.sqlite.specs.Held.{state}
use Rattle.mqtt_store_tables.proofs.forms_lemmas.Kept.{stays_inside}
use Rattle.mqtt_store_tables.proofs.statements_lemmas.puts.PutOpen.{puts_open}
use Rattle.mqtt_store_tables.proofs.statements.identifiers.put_open.Goals as goal

pub returns-clause-put : goal.returns-clause-put
returns-clause-put g c l asked clean whole =
    puts_open l asked c.args.birth c.args.identifier (state g.S.Store c.args.tx.now.conn.now) (state g.S.Store c.execute.new.self.conn.now) c.execute.result whole
    (rw (
      c.params-to_sql.ensures,
      c.params-to_sql-2.ensures,
      c.whole-birth.ensures,
      c.whole-identifier.ensures,
      to_z-of_z w64 (pos c.args.birth) (omega arith),
      to_z-of_z w64 (pos c.args.identifier) (omega arith),
    ) at (c.execute.ensures.runs clean whole.inside))

pub returns-clause-inside : goal.returns-clause-inside
returns-clause-inside g c = stays_inside g.S.Store _ _ _ _ c.execute.result c.execute.ensures.ended c.execute.ensures.runs c.execute.ensures.survives

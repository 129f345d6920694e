use Rattle.std.proofs.Common.{arith, w64, pos}
use Rattle.std.proofs.lemmas.Int.{to_z-of_z}
use Rattle.sqlite.specs.Held.{state}
use Rattle.mqtt_store_tables.proofs.forms_lemmas.Kept.{stays_inside}
use Rattle.mqtt_store_tables.proofs.statements_lemmas.sets.SetNumber.{sets_number, any_number}
use Rattle.mqtt_store_tables.proofs.statements.numbers.set_number.Goals as goal

pub returns-clause-set : goal.returns-clause-set
returns-clause-set g c l asked id n there clean whole =
    sets_number l asked c.args.name.now c.args.value (state g.S.Store c.args.tx.now.conn.now) (state g.S.Store c.execute.new.self.conn.now) id n c.execute.result whole there
    (rw (c.params-to_sql.ensures, c.params-to_sql-2.ensures, c.whole-value.ensures, to_z-of_z w64 (pos c.args.value) (omega arith)) at (c.execute.ensures.runs clean whole.inside))

pub returns-clause-inside : goal.returns-clause-inside
returns-clause-inside g c = stays_inside g.S.Store _ _ _ _ c.execute.result c.execute.ensures.ended c.execute.ensures.runs c.execute.ensures.survives

pub returns-clause-whole : goal.returns-clause-whole
returns-clause-whole g c l asked clean whole =
    any_number l asked c.args.name.now c.args.value (state g.S.Store c.args.tx.now.conn.now) (state g.S.Store c.execute.new.self.conn.now) c.execute.result whole
    (rw (c.params-to_sql.ensures, c.params-to_sql-2.ensures, c.whole-value.ensures, to_z-of_z w64 (pos c.args.value) (omega arith)) at (c.execute.ensures.runs clean whole.inside))

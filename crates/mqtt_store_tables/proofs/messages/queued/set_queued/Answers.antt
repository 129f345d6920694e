use Rattle.std.proofs.Common.{arith, w64, pos}
use Rattle.std.proofs.lemmas.Int.{to_z-of_z}
use Rattle.sqlite_value.specs.declared.value.Value.TheVariants.{Int}
use Rattle.sqlite.specs.Held.{state}
use Rattle.mqtt_store_tables.proofs.forms_lemmas.Kept.{stays_inside}
use Rattle.mqtt_store_tables.proofs.statements_lemmas.tables.Numbers.{args_are}
use Rattle.mqtt_store_tables.proofs.messages_lemmas.SetQueued.{sets, any_queued}
use Rattle.mqtt_store_tables.proofs.messages.queued.set_queued.Goals as goal

pub returns-clause-set : goal.returns-clause-set
returns-clause-set g c making id columns there clean whole =
    let old = state g.S.Store c.args.tx.now.conn.now in
    let new = state g.S.Store c.execute.new.self.conn.now in
    sets making c.args.birth c.args.place c.args.phase c.args.pid c.args.rel old new id columns c.execute.result whole there
    (args_are _ old new c.execute.result (Int (pos c.args.birth)) (Int (pos c.args.place)) (Int (pos c.args.phase)) c.args.pid c.args.rel
    (rw (
      c.params-to_sql.ensures,
      c.params-to_sql-2.ensures,
      c.params-to_sql-3.ensures,
      c.params-to_sql-4.ensures,
      c.params-to_sql-5.ensures,
      c.whole-birth.ensures,
      c.whole-place.ensures,
      c.whole_or_none-pid.ensures,
      c.whole_or_none-rel.ensures,
      c.from.ensures,
      to_z-of_z w64 (pos c.args.birth) (omega arith),
      to_z-of_z w64 (pos c.args.place) (omega arith),
    ) at (c.execute.ensures.runs clean whole.inside)))

pub returns-clause-inside : goal.returns-clause-inside
returns-clause-inside g c = stays_inside g.S.Store _ _ _ _ c.execute.result c.execute.ensures.ended c.execute.ensures.runs c.execute.ensures.survives

pub returns-clause-whole : goal.returns-clause-whole
returns-clause-whole g c making clean whole =
    let old = state g.S.Store c.args.tx.now.conn.now in
    let new = state g.S.Store c.execute.new.self.conn.now in
    any_queued making c.args.birth c.args.place c.args.phase c.args.pid c.args.rel old new c.execute.result whole
    (args_are _ old new c.execute.result (Int (pos c.args.birth)) (Int (pos c.args.place)) (Int (pos c.args.phase)) c.args.pid c.args.rel
    (rw (
      c.params-to_sql.ensures,
      c.params-to_sql-2.ensures,
      c.params-to_sql-3.ensures,
      c.params-to_sql-4.ensures,
      c.params-to_sql-5.ensures,
      c.whole-birth.ensures,
      c.whole-place.ensures,
      c.whole_or_none-pid.ensures,
      c.whole_or_none-rel.ensures,
      c.from.ensures,
      to_z-of_z w64 (pos c.args.birth) (omega arith),
      to_z-of_z w64 (pos c.args.place) (omega arith),
    ) at (c.execute.ensures.runs clean whole.inside)))

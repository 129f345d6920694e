use Rattle.std.proofs.Common.{arith, w64, pos}
use Rattle.std.proofs.lemmas.Int.{to_z-of_z}
use Rattle.std.proofs.lemmas.Result.{IfOk-weaker}
use Rattle.sqlite.specs.Held.{state}
use Rattle.mqtt_store_database.proofs.telling_lemmas.Far.{near, near_small}
use Rattle.mqtt_store_database.proofs.telling_lemmas.Asking.{contents_text, contents_shows, query_reads, query_is_open}
use Rattle.mqtt_store_database.proofs.telling_lemmas.Kept.{answers}
use Rattle.mqtt_store_database.proofs.telling_lemmas.Written.{written_answers}
use Rattle.mqtt_store_database.proofs.telling.reading.rows_from.Goals as goal

pub returns-clause-rows : goal.returns-clause-rows
returns-clause-rows g c making r clean schema has =
    let birth = near_small c.args.birth in
    let place = near_small c.args.place in
    IfOk-weaker c.query_all.result _ _
    (λ rows. answers making c.args.birth c.args.place c.args.limit (state g.S.Store c.args.conn.now) (state g.S.Store c.query_all.new.self) rows.items r schema has)
    (rw (
      c.params-to_sql.ensures,
      c.params-to_sql-2.ensures,
      c.params-to_sql-3.ensures,
      c.in_sql-birth.ensures,
      c.in_sql-place.ensures,
      to_z-of_z w64 (pos (near c.args.birth)) (omega (arith, birth)),
      to_z-of_z w64 (pos (near c.args.place)) (omega (arith, place)),
    ) at (c.query_all.ensures.ok clean))

pub returns-clause-is_open : goal.returns-clause-is_open
returns-clause-is_open g c clean =
    query_is_open contents_text _ (state g.S.Store c.args.conn.now) (state g.S.Store c.query_all.new.self) (contents_shows _) c.query_all.result (c.query_all.ensures.ok clean)

pub returns-clause-reads : goal.returns-clause-reads
returns-clause-reads g c =
    query_reads contents_text _ (state g.S.Store c.args.conn.now) (state g.S.Store c.query_all.new.self) (contents_shows _) c.query_all.result c.query_all.ensures.ok c.query_all.ensures.err c.query_all.ensures.mode c.query_all.ensures.survives

pub returns-clause-written : goal.returns-clause-written
returns-clause-written g c making r clean schema order keeps in_births in_places =
    let birth = near_small c.args.birth in
    let place = near_small c.args.place in
    IfOk-weaker c.query_all.result _ _
    (λ rows. written_answers making c.args.birth c.args.place c.args.limit (state g.S.Store c.args.conn.now) (state g.S.Store c.query_all.new.self) rows.items r schema order keeps in_births in_places)
    (rw (
      c.params-to_sql.ensures,
      c.params-to_sql-2.ensures,
      c.params-to_sql-3.ensures,
      c.in_sql-birth.ensures,
      c.in_sql-place.ensures,
      to_z-of_z w64 (pos (near c.args.birth)) (omega (arith, birth)),
      to_z-of_z w64 (pos (near c.args.place)) (omega (arith, place)),
    ) at (c.query_all.ensures.ok clean))

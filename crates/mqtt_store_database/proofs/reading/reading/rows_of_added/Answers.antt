use Rattle.std.proofs.lemmas.Result.{IfOk-weaker}
use Rattle.sqlite.specs.Held.{state}
use Rattle.mqtt_store_tables.proofs.forms_lemmas.Staying.{query_reads, query_is_open}
use Rattle.mqtt_store_database.specs.reading.Listing.{added_text}
use Rattle.mqtt_store_database.proofs.reading_lemmas.Selects.{added_lists, added_shows}
use Rattle.mqtt_store_database.proofs.reading.reading.rows_of_added.Goals as goal

pub returns-clause-rows : goal.returns-clause-rows
returns-clause-rows g c making clean schema =
    IfOk-weaker c.query_all.result _ _ (λ rows. added_lists making c.args.table (state g.S.Store c.args.conn.now) (state g.S.Store c.query_all.new.self) rows.items schema)
    (rw c.select_of.ensures at (c.query_all.ensures.ok clean))

pub returns-clause-is_open : goal.returns-clause-is_open
returns-clause-is_open g c clean =
    query_is_open (added_text c.args.table) (state g.S.Store c.args.conn.now) (state g.S.Store c.query_all.new.self) (added_shows _ c.args.table) c.query_all.result (rw c.select_of.ensures at (c.query_all.ensures.ok clean))

pub returns-clause-reads : goal.returns-clause-reads
returns-clause-reads g c =
    query_reads (added_text c.args.table) (state g.S.Store c.args.conn.now) (state g.S.Store c.query_all.new.self) (added_shows _ c.args.table) c.query_all.result
    (rw c.select_of.ensures at c.query_all.ensures.ok) (rw c.select_of.ensures at c.query_all.ensures.err) c.query_all.ensures.mode (rw c.select_of.ensures at c.query_all.ensures.survives)

use Rattle.std.proofs.lemmas.Result.{IfOk-weaker}
use Rattle.sqlite.specs.Held.{state}
use Rattle.mqtt_store_tables.proofs.forms_lemmas.Staying.{query_reads, query_is_open}
use Rattle.mqtt_store_database.specs.asking.Listing.{select_text}
use Rattle.mqtt_store_tables.specs.forms.Tables.{keep_schema}
use Rattle.mqtt_store_tables.specs.schema.Tables.{second_schema}
use Rattle.mqtt_store_database.proofs.asking_lemmas.Listings.{table_lists}
use Rattle.mqtt_store_database.proofs.asking_lemmas.Selects.{first_means, second_means, select_shows}
use Rattle.mqtt_store_database.proofs.asking.reading.rows_of.Goals as goal

pub returns-clause-rows : goal.returns-clause-rows
returns-clause-rows g c clean schema =
    IfOk-weaker c.query_all.result _ _ (λ rows. table_lists c.args.table keep_schema (first_means c.args.table) (state g.S.Store c.args.conn.now) (state g.S.Store c.query_all.new.self) rows.items schema)
    (rw c.select_of.ensures at (c.query_all.ensures.ok clean))

pub returns-clause-second : goal.returns-clause-second
returns-clause-second g c making clean schema stands =
    IfOk-weaker c.query_all.result _ _
    (λ rows. table_lists c.args.table (second_schema making) (second_means making c.args.table stands) (state g.S.Store c.args.conn.now) (state g.S.Store c.query_all.new.self) rows.items schema)
    (rw c.select_of.ensures at (c.query_all.ensures.ok clean))

pub returns-clause-is_open : goal.returns-clause-is_open
returns-clause-is_open g c clean =
    query_is_open (select_text c.args.table) (state g.S.Store c.args.conn.now) (state g.S.Store c.query_all.new.self) (select_shows _ c.args.table) c.query_all.result (rw c.select_of.ensures at (c.query_all.ensures.ok clean))

pub returns-clause-reads : goal.returns-clause-reads
returns-clause-reads g c =
    query_reads (select_text c.args.table) (state g.S.Store c.args.conn.now) (state g.S.Store c.query_all.new.self) (select_shows _ c.args.table) c.query_all.result
    (rw c.select_of.ensures at c.query_all.ensures.ok) (rw c.select_of.ensures at c.query_all.ensures.err) c.query_all.ensures.mode (rw c.select_of.ensures at c.query_all.ensures.survives)

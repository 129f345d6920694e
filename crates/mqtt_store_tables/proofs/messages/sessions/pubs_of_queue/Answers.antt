use Rattle.std.proofs.Common.{arith, w64, pos, [], ◌∷◌}
use Rattle.std.proofs.lemmas.Int.{to_z-of_z}
use Rattle.sqlite_value.specs.declared.value.Value.TheVariants.{Int}
use Rattle.sqlite.specs.Held.{state}
use Rattle.mqtt_store_tables.proofs.messages_lemmas.Reading.{asks_inside, shown_unchanged}
use Rattle.mqtt_store_tables.proofs.messages_lemmas.PubsOfQueue.{queue_text, queue_shows, finds_all}
use Rattle.mqtt_store_tables.proofs.messages.sessions.pubs_of_queue.Goals as goal

pub returns-in_err-rows-clause-inside : goal.returns-in_err-rows-clause-inside
returns-in_err-rows-clause-inside g c =
    asks_inside queue_text _ (state g.S.Store c.args.tx.now.conn.now) (state g.S.Store c.query_all.new.self.conn.now) (queue_shows _) c.query_all.result c.query_all.ensures.ok c.query_all.ensures.err c.query_all.ensures.survives

pub returns-clause-found : goal.returns-clause-found
returns-clause-found g c making clean whole =
    let old = state g.S.Store c.args.tx.now.conn.now in
    let new = state g.S.Store c.query_all.new.self.conn.now in
    let rows = c.in_ok-rows.rows.items in
    let shown = rw (c.params-to_sql.ensures, c.whole-birth.ensures, to_z-of_z w64 (pos c.args.birth) (omega arith)) at (c.in_ok-rows.ensures.ok clean) in
    finds_all making c.args.birth old new rows whole shown (shown_unchanged queue_text (Int (pos c.args.birth) ∷ []) old new (queue_shows _) rows shown) c.numbers_of.result (rw c.as_slice.ensures.value at c.numbers_of.ensures)

pub returns-clause-inside : goal.returns-clause-inside
returns-clause-inside g c =
    asks_inside queue_text _ (state g.S.Store c.args.tx.now.conn.now) (state g.S.Store c.query_all.new.self.conn.now) (queue_shows _) c.query_all.result c.query_all.ensures.ok c.query_all.ensures.err c.query_all.ensures.survives

use Rattle.std.proofs.Common.{[], ◌∷◌}
use Rattle.sqlite_value.specs.declared.value.Value.TheVariants.{Text}
use Rattle.sqlite.specs.Held.{state}
use Rattle.mqtt_store_tables.specs.statements.Layout.{second_layout}
use Rattle.mqtt_store_tables.specs.statements.Content.{is_text}
use Rattle.mqtt_store_tables.specs.messages.Places.{kept_tree}
use Rattle.mqtt_store_tables.proofs.messages_lemmas.Reading.{asks_inside, shown_unchanged, finds}
use Rattle.mqtt_store_tables.proofs.messages_lemmas.Topics.{topic_text, topic_shows, topic_told}
use Rattle.mqtt_store_tables.proofs.messages.kept.pub_of_topic.Goals as goal

pub returns-in_err-rows-clause-inside : goal.returns-in_err-rows-clause-inside
returns-in_err-rows-clause-inside g c =
    asks_inside topic_text _ (state g.S.Store c.args.tx.now.conn.now) (state g.S.Store c.query_all.new.self.conn.now) (topic_shows _) c.query_all.result c.query_all.ensures.ok c.query_all.ensures.err c.query_all.ensures.survives

pub returns-clause-found : goal.returns-clause-found
returns-clause-found g c making clean whole =
    let old = state g.S.Store c.args.tx.now.conn.now in
    let new = state g.S.Store c.query_all.new.self.conn.now in
    let topic = c.args.topic.now in
    let rows = c.in_ok-rows.rows.items in
    let shown = rw c.params-to_sql.ensures at (c.in_ok-rows.ensures.ok clean) in
    finds (second_layout making) (kept_tree making) 4 (is_text 2 topic) old new rows (topic_told making topic old new whole rows shown)
    (shown_unchanged topic_text (Text topic ∷ []) old new (topic_shows _) rows shown) whole c.number_of.result (rw c.as_slice.ensures.value at c.number_of.ensures)

pub returns-clause-inside : goal.returns-clause-inside
returns-clause-inside g c =
    asks_inside topic_text _ (state g.S.Store c.args.tx.now.conn.now) (state g.S.Store c.query_all.new.self.conn.now) (topic_shows _) c.query_all.result c.query_all.ensures.ok c.query_all.ensures.err c.query_all.ensures.survives

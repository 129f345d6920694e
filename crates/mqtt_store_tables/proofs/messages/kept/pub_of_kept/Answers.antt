use Rattle.std.proofs.Common.{arith, w64, pos, [], ◌∷◌}
use Rattle.std.proofs.lemmas.Int.{to_z-of_z}
use Rattle.sqlite_value.specs.declared.value.Value.TheVariants.{Int}
use Rattle.sqlite.specs.Held.{state}
use Rattle.mqtt_store_tables.specs.statements.Layout.{second_layout}
use Rattle.mqtt_store_tables.specs.statements.Content.{is_of}
use Rattle.mqtt_store_tables.specs.messages.Places.{kept_tree}
use Rattle.mqtt_store_tables.proofs.messages_lemmas.Reading.{asks_inside, shown_unchanged, finds}
use Rattle.mqtt_store_tables.proofs.messages_lemmas.Pubs.{kept_text, kept_shows, kept_told}
use Rattle.mqtt_store_tables.proofs.messages.kept.pub_of_kept.Goals as goal

pub returns-in_err-rows-clause-inside : goal.returns-in_err-rows-clause-inside
returns-in_err-rows-clause-inside g c =
    asks_inside kept_text _ (state g.S.Store c.args.tx.now.conn.now) (state g.S.Store c.query_all.new.self.conn.now) (kept_shows _) c.query_all.result c.query_all.ensures.ok c.query_all.ensures.err c.query_all.ensures.survives

pub returns-clause-found : goal.returns-clause-found
returns-clause-found g c making clean whole =
    let old = state g.S.Store c.args.tx.now.conn.now in
    let new = state g.S.Store c.query_all.new.self.conn.now in
    let rows = c.in_ok-rows.rows.items in
    let shown = rw (c.params-to_sql.ensures, c.whole-place.ensures, to_z-of_z w64 (pos c.args.place) (omega arith)) at (c.in_ok-rows.ensures.ok clean) in
    finds (second_layout making) (kept_tree making) 4 (is_of 0 (pos c.args.place)) old new rows (kept_told making c.args.place old new whole rows shown)
    (shown_unchanged kept_text (Int (pos c.args.place) ∷ []) old new (kept_shows _) rows shown) whole c.number_of.result (rw c.as_slice.ensures.value at c.number_of.ensures)

pub returns-clause-inside : goal.returns-clause-inside
returns-clause-inside g c =
    asks_inside kept_text _ (state g.S.Store c.args.tx.now.conn.now) (state g.S.Store c.query_all.new.self.conn.now) (kept_shows _) c.query_all.result c.query_all.ensures.ok c.query_all.ensures.err c.query_all.ensures.survives

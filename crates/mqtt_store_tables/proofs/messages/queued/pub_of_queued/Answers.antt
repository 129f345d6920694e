use Rattle.std.proofs.Common.{arith, w64, pos, [], ◌∷◌}
use Rattle.std.proofs.lemmas.Int.{to_z-of_z}
use Rattle.sqlite_value.specs.declared.value.Value.TheVariants.{Int}
use Rattle.sqlite.specs.Held.{state}
use Rattle.mqtt_store_tables.specs.statements.Layout.{second_layout}
use Rattle.mqtt_store_tables.specs.statements.Removal.{is_keyed}
use Rattle.mqtt_store_tables.specs.messages.Places.{queued_tree}
use Rattle.mqtt_store_tables.proofs.messages_lemmas.Reading.{asks_inside, shown_unchanged, finds}
use Rattle.mqtt_store_tables.proofs.messages_lemmas.Pubs.{queued_text, queued_shows, queued_told}
use Rattle.mqtt_store_tables.proofs.messages.queued.pub_of_queued.Goals as goal

pub returns-in_err-rows-clause-inside : goal.returns-in_err-rows-clause-inside
returns-in_err-rows-clause-inside g c =
    asks_inside queued_text _ (state g.S.Store c.args.tx.now.conn.now) (state g.S.Store c.query_all.new.self.conn.now) (queued_shows _) c.query_all.result c.query_all.ensures.ok c.query_all.ensures.err c.query_all.ensures.survives

pub returns-clause-found : goal.returns-clause-found
returns-clause-found g c making clean whole =
    let old = state g.S.Store c.args.tx.now.conn.now in
    let new = state g.S.Store c.query_all.new.self.conn.now in
    let rows = c.in_ok-rows.rows.items in
    let shown = rw (
      c.params-to_sql.ensures,
      c.params-to_sql-2.ensures,
      c.whole-birth.ensures,
      c.whole-place.ensures,
      to_z-of_z w64 (pos c.args.birth) (omega arith),
      to_z-of_z w64 (pos c.args.place) (omega arith),
    ) at (c.in_ok-rows.ensures.ok clean) in
    finds (second_layout making) (queued_tree making) 3 (is_keyed (pos c.args.birth) (pos c.args.place)) old new rows (queued_told making c.args.birth c.args.place old new whole rows shown)
    (shown_unchanged queued_text (Int (pos c.args.birth) ∷ Int (pos c.args.place) ∷ []) old new (queued_shows _) rows shown) whole c.number_of.result (rw c.as_slice.ensures.value at c.number_of.ensures)

pub returns-clause-inside : goal.returns-clause-inside
returns-clause-inside g c =
    asks_inside queued_text _ (state g.S.Store c.args.tx.now.conn.now) (state g.S.Store c.query_all.new.self.conn.now) (queued_shows _) c.query_all.result c.query_all.ensures.ok c.query_all.ensures.err c.query_all.ensures.survives

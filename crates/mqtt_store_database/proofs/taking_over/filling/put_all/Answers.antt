use Rattle.std.proofs.Common.{map, flat_map}
use Rattle.std.proofs.lemmas.Result.{on_ok_weaker}
use Rattle.sqlite.specs.Held.{state}
use Rattle.mqtt_records.specs.declared.state.change.Change.TheVariants.{PutRetained}
use Rattle.mqtt_store_tables.proofs.messages_lemmas.Inside.{clean_before}
use Rattle.mqtt_store_database.specs.taking_over.Puts.{queue_puts}
use Rattle.mqtt_store_database.proofs.taking_over_lemmas.Making.{make_then}
use Rattle.mqtt_store_database.proofs.taking_over.filling.put_all.Goals as goal

pub returns-clause-put : goal.returns-clause-put
returns-clause-put g c making clean whole =
    let old = state g.S.Store c.args.tx.now.conn.now in
    let mid = state g.S.Store c.put_queues.new.tx.conn.now in
    let new = state g.S.Store c.put_retained.new.tx.conn.now in
    let r = c.args.records.now in
    let first = rw c.as_slice.ensures.rows at (c.in_ok-put_queues.ensures.put making (clean_before mid new c.put_retained.ensures.inside clean) whole) in
    let last = rw c.as_slice-2.ensures.rows at (c.put_retained.ensures.put making clean first.1) in
    (on_ok_weaker c.put_retained.result (λ made. make_then making (flat_map queue_puts r.sessions) (map PutRetained r.retained) old.now.trees mid.now.trees new.now.trees first.0 made) last.0, last.1)

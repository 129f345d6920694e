use Rattle.std.proofs.Common.{ap}
use Rattle.std.proofs.lemmas.Result.{on_ok_weaker}
use Rattle.sqlite.specs.Held.{state}
use Rattle.mqtt_store_tables.specs.messages.Rows.{QueuedColumns}
use Rattle.mqtt_store_tables.specs.messages.Comings.{PutsQueued}
use Rattle.mqtt_store_tables.proofs.messages_lemmas.Changed.{put_first}
use Rattle.mqtt_store_tables.proofs.messages_lemmas.Inside.{clean_before}
use Rattle.mqtt_store_tables.proofs.messages.referring.put_copy.Goals as goal

pub returns-clause-put : goal.returns-clause-put
returns-clause-put g c making clean whole =
    let old = state g.S.Store c.args.tx.now.conn.now in
    let mid = state g.S.Store c.put_message.new.tx.conn.now in
    let new = state g.S.Store c.put_behind.new.tx.conn.now in
    let copy = c.args.copy.now in
    let puts = PutsQueued making c.args.birth c.args.place copy in
    let publication = ap (λ (m : QueuedColumns). m.publication) c.copy.view_is in
    let first = rw publication at (c.in_ok-put_message.ensures.put making (clean_before mid new c.put_behind.ensures.inside clean) whole) in
    let last = c.put_behind.ensures.put making clean first.1 in
    (on_ok_weaker c.put_behind.result (λ done. put_first making copy.publication c.args.message.now puts old.now.trees mid.now.trees new.now.trees first.0 done) last.0, last.1)

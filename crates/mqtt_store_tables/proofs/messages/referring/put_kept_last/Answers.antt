use Rattle.std.proofs.Common.{ap}
use Rattle.sqlite.specs.Held.{state}
use Rattle.mqtt_store_tables.specs.messages.Rows.{KeptColumns}
use Rattle.mqtt_store_tables.proofs.messages_lemmas.Inside.{clean_before}
use Rattle.mqtt_store_tables.proofs.messages.referring.put_kept_last.Goals as goal

pub returns-clause-put : goal.returns-clause-put
returns-clause-put g c making clean whole =
    let mid = state g.S.Store c.put_message.new.tx.conn.now in
    let new = state g.S.Store c.put_kept.new.tx.conn.now in
    let publication = ap (λ (m : KeptColumns). m.publication) c.kept.view_is in
    let first = rw publication at (c.in_ok-put_message.ensures.put making (clean_before mid new c.put_kept.ensures.inside clean) whole) in
    let last = c.in_ok-put_kept.ensures.put making clean first.1 in
    ((mid.now.trees, first.0, last.0), last.1)

use Rattle.std.proofs.lemmas.Result.{on_ok_weaker}
use Rattle.sqlite.specs.Held.{state}
use Rattle.mqtt_store_tables.proofs.messages_lemmas.Inside.{clean_before}
use Rattle.mqtt_store_tables.proofs.messages_lemmas.Changed.{same_trees}
use Rattle.mqtt_store_tables.proofs.messages.referring.end_session.Goals as goal

pub returns-clause-removed : goal.returns-clause-removed
returns-clause-removed g c making clean whole =
    let old = state g.S.Store c.args.tx.now.conn.now in
    let seen = state g.S.Store c.pubs_of_queue.new.tx.conn.now in
    let new = state g.S.Store c.remove_and_sweep-removed.new.tx.conn.now in
    let found = c.in_ok-numbers.ensures.found making (clean_before seen new c.remove_and_sweep-removed.ensures.inside clean) whole in
    let ended = rw (same_trees old seen found.1.0, c.as_slice.ensures.value) at (c.remove_and_sweep-removed.ensures.removed making clean found.1.1) in
    (on_ok_weaker c.remove_and_sweep-removed.result (λ h. h found.0) ended.0, ended.1)

use Rattle.std.proofs.Common.{pos, refl}
use Rattle.std.proofs.lemmas.Result.{on_ok_weaker}
use Rattle.sqlite.specs.Held.{state}
use Rattle.mqtt_store_tables.specs.statements.Content.{is_of}
use Rattle.mqtt_store_tables.specs.messages.Places.{queued_tree}
use Rattle.mqtt_store_tables.specs.messages.References.{FindsAll}
use Rattle.mqtt_store_tables.proofs.messages_lemmas.Inside.{clean_before}
use Rattle.mqtt_store_tables.proofs.messages_lemmas.Changed.{session_has_ended}
use Rattle.mqtt_store_tables.proofs.messages.referring.remove_and_sweep.Goals as goal

pub returns-clause-removed : goal.returns-clause-removed
returns-clause-removed g c making clean whole =
    let old = state g.S.Store c.args.tx.now.conn.now in
    let mid = state g.S.Store c.remove_session.new.tx.conn.now in
    let new = state g.S.Store c.sweep_all.new.tx.conn.now in
    let ends = c.in_ok-remove_session.ensures.removed making (clean_before mid new c.sweep_all.ensures.inside clean) whole in
    let swept = c.sweep_all.ensures.swept making clean ends.1 in
    (on_ok_weaker c.sweep_all.result (λ h (finds : FindsAll (queued_tree making) 3 (is_of 1 (pos c.args.birth)) c.args.numbers.now old.now.trees). session_has_ended making old old mid new.now.trees whole refl ends.1 c.args.birth c.args.numbers.now finds ends.0 h) swept.0, swept.1)

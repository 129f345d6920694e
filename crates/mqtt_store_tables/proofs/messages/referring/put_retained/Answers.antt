use Rattle.std.proofs.Common.{◌∙◌, ap}
use Rattle.std.proofs.lemmas.Result.{on_ok_weaker}
use Rattle.sqlite.specs.Held.{state}
use Rattle.mqtt_store_tables.specs.messages.Rows.{KeptColumns}
use Rattle.mqtt_store_tables.proofs.messages_lemmas.Inside.{clean_before}
use Rattle.mqtt_store_tables.proofs.messages_lemmas.Changed.{same_trees, retained_is_put}
use Rattle.mqtt_store_tables.proofs.messages.referring.put_retained.Goals as goal

pub returns-clause-put : goal.returns-clause-put
returns-clause-put g c making clean whole =
    let old = state g.S.Store c.args.tx.now.conn.now in
    let seen = state g.S.Store c.pub_of_kept.new.tx.conn.now in
    let both = state g.S.Store c.pub_of_topic.new.tx.conn.now in
    let mid = state g.S.Store c.put_kept_last.new.tx.conn.now in
    let new = state g.S.Store c.sweep_both.new.tx.conn.now in
    let third = clean_before mid new c.sweep_both.ensures.inside clean in
    let second = clean_before both mid c.put_kept_last.ensures.inside third in
    let by_place = c.in_ok-at_place.ensures.found making (clean_before seen both c.pub_of_topic.ensures.inside second) whole in
    let by_topic = c.in_ok-of_topic.ensures.found making second by_place.1.1 in
    let put = c.in_ok-put_kept_last.ensures.put making third by_topic.1.1 in
    let swept = c.sweep_both.ensures.swept making clean put.1 in
    let topic = ap (λ (m : KeptColumns). m.topic) c.kept.view_is in
    let of_topic = rw (topic, same_trees old seen by_place.1.0) at by_topic.0 in
    (on_ok_weaker c.sweep_both.result (λ h. retained_is_put making old both mid new.now.trees whole (by_topic.1.0 ∙ by_place.1.0) put.1 c.args.place c.args.message.now c.args.kept.now c.in_ok-at_place.at_place c.in_ok-of_topic.of_topic by_place.0 of_topic put.0 h) swept.0, swept.1)

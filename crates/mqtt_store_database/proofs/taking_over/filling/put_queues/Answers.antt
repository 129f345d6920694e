use Rattle.std.proofs.Common.{◌≡◌, ◌∷◌, ◌∙◌, flat_map, length, refl, ap, rules}
use Rattle.sqlite.specs.Held.{state}
use Rattle.mqtt_store_tables.proofs.messages_lemmas.Inside.{clean_before, stays_same, stays_then}
use Rattle.mqtt_store_database.specs.taking_over.Puts.{queue_puts}
use Rattle.mqtt_store_database.proofs.taking_over_lemmas.Making.{leads_on, leads_end}
use Rattle.mqtt_store_database.proofs.taking_over.filling.put_queues.Goals as goal

pub loop-session-init : goal.loop-session-init
loop-session-init g c = record { same = refl; inside = stays_same (state g.S.Store c.args.tx.now.conn.now); put = λ making clean whole. (λ end made. made, whole) }

pub loop-session-preserved : goal.loop-session-preserved
loop-session-preserved g c =
    let old = state g.S.Store c.args.tx.now.conn.now in
    let mid = state g.S.Store c.loop-session.tx.conn.now in
    let new = state g.S.Store c.put_queue.new.tx.conn.now in
    let did = c.in_ok-put_queue.ensures in
    let inv = c.loop-session.invariant in
    let session = c.in-Some.session.now in
    let after = c.in-Some.after.now in
    let puts = flat_map queue_puts in
    let splits : c.loop-session.rest.now ≡ session ∷ after = search rules in
    record {
      same = did.same_reference ∙ inv.same;
      inside = stays_then old mid new inv.inside did.inside;
      put = λ making clean whole.
          let first = inv.put making (clean_before mid new did.inside clean) whole in
          let last = did.put making clean first.1 in
          let made = rw (c.as_slice.ensures.rows, c.get-session.ensures) at last.0 in
          (leads_on making (puts c.args.sessions.now) (puts c.loop-session.rest.now) (queue_puts session) (puts after) old.now.trees mid.now.trees new.now.trees (ap puts splits) first.0 made, last.1);
    }

pub returns-clause-put : goal.returns-clause-put
returns-clause-put g c making clean whole =
    let old = state g.S.Store c.args.tx.now.conn.now in
    let now = state g.S.Store c.loop-session.tx.conn.now in
    let ends : length c.loop-session.rest.now ≡ 0 = search rules in
    let did = c.loop-session.invariant.put making clean whole in
    (leads_end making (flat_map queue_puts) (flat_map queue_puts c.args.sessions.now) c.loop-session.rest.now old.now.trees now.now.trees refl ends did.0, did.1)

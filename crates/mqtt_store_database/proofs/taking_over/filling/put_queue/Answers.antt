use Rattle.std.proofs.Common.{◌≡◌, ◌∷◌, ◌∙◌, map, length, refl, ap, rules}
use Rattle.sqlite.specs.Held.{state}
use Rattle.mqtt_records.specs.declared.state.change.Change.TheVariants.{PutCopy}
use Rattle.mqtt_store_tables.proofs.messages_lemmas.Inside.{clean_before, stays_same, stays_then}
use Rattle.mqtt_store_database.proofs.taking_over_lemmas.Making.{leads_one, leads_end}
use Rattle.mqtt_store_database.proofs.taking_over.filling.put_queue.Goals as goal

pub loop-row-init : goal.loop-row-init
loop-row-init g c = record { same = refl; inside = stays_same (state g.S.Store c.args.tx.now.conn.now); put = λ making clean whole. (λ end made. made, whole) }

pub loop-row-preserved : goal.loop-row-preserved
loop-row-preserved g c =
    let old = state g.S.Store c.args.tx.now.conn.now in
    let mid = state g.S.Store c.loop-row.tx.conn.now in
    let new = state g.S.Store c.put_copy.new.tx.conn.now in
    let did = c.in_ok-put_copy.ensures in
    let inv = c.loop-row.invariant in
    let row = c.in-Some.row.now in
    let after = c.in-Some.after.now in
    let puts = map (PutCopy c.args.birth) in
    let splits : c.loop-row.rest.now ≡ row ∷ after = search rules in
    record {
      same = did.same_reference ∙ inv.same;
      inside = stays_then old mid new inv.inside did.inside;
      put = λ making clean whole.
          let first = inv.put making (clean_before mid new did.inside clean) whole in
          let last = did.put making clean first.1 in
          (leads_one making (puts c.args.queue.now) (puts c.loop-row.rest.now) (PutCopy c.args.birth row) (puts after) old.now.trees mid.now.trees new.now.trees (ap puts splits) first.0 last.0, last.1);
    }

pub returns-clause-put : goal.returns-clause-put
returns-clause-put g c making clean whole =
    let old = state g.S.Store c.args.tx.now.conn.now in
    let now = state g.S.Store c.loop-row.tx.conn.now in
    let ends : length c.loop-row.rest.now ≡ 0 = search rules in
    let did = c.loop-row.invariant.put making clean whole in
    (leads_end making (map (PutCopy c.args.birth)) (map (PutCopy c.args.birth) c.args.queue.now) c.loop-row.rest.now old.now.trees now.now.trees refl ends did.0, did.1)

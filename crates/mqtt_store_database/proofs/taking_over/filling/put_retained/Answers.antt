use Rattle.std.proofs.Common.{◌≡◌, ◌∷◌, ◌∙◌, map, length, refl, ap, rules}
use Rattle.sqlite.specs.Held.{state}
use Rattle.mqtt_records.specs.declared.state.change.Change.TheVariants.{PutRetained}
use Rattle.mqtt_store_tables.proofs.messages_lemmas.Inside.{clean_before, stays_same, stays_then}
use Rattle.mqtt_store_database.proofs.taking_over_lemmas.Making.{leads_one, leads_end}
use Rattle.mqtt_store_database.proofs.taking_over.filling.put_retained.Goals as goal

pub loop-kept-init : goal.loop-kept-init
loop-kept-init g c = record { same = refl; inside = stays_same (state g.S.Store c.args.tx.now.conn.now); put = λ making clean whole. (λ end made. made, whole) }

pub loop-kept-preserved : goal.loop-kept-preserved
loop-kept-preserved g c =
    let old = state g.S.Store c.args.tx.now.conn.now in
    let mid = state g.S.Store c.loop-kept.tx.conn.now in
    let new = state g.S.Store c.put_message.new.tx.conn.now in
    let did = c.in_ok-put_message.ensures in
    let inv = c.loop-kept.invariant in
    let kept = c.in-Some.kept.now in
    let after = c.in-Some.after.now in
    let puts = map PutRetained in
    let splits : c.loop-kept.rest.now ≡ kept ∷ after = search rules in
    record {
      same = did.same_reference ∙ inv.same;
      inside = stays_then old mid new inv.inside did.inside;
      put = λ making clean whole.
          let first = inv.put making (clean_before mid new did.inside clean) whole in
          let last = did.put making clean first.1 in
          (leads_one making (puts c.args.retained.now) (puts c.loop-kept.rest.now) (PutRetained kept) (puts after) old.now.trees mid.now.trees new.now.trees (ap puts splits) first.0 last.0, last.1);
    }

pub returns-clause-put : goal.returns-clause-put
returns-clause-put g c making clean whole =
    let old = state g.S.Store c.args.tx.now.conn.now in
    let now = state g.S.Store c.loop-kept.tx.conn.now in
    let ends : length c.loop-kept.rest.now ≡ 0 = search rules in
    let did = c.loop-kept.invariant.put making clean whole in
    (leads_end making (map PutRetained) (map PutRetained c.args.retained.now) c.loop-kept.rest.now old.now.trees now.now.trees refl ends did.0, did.1)

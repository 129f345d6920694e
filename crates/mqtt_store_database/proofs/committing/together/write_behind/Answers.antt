use Rattle.std.proofs.Common.{◌≡◌, ◌∷◌, [], Bool, true, false, sym, ap, ◌∙◌, subst, length, arith, rules}
use Rattle.sqlite_trees.specs.Tree.{Trees}
use Rattle.sqlite.specs.Held.{state}
use Rattle.mqtt_store_tables.proofs.messages_lemmas.Inside.{clean_before, stays_then}
use Rattle.mqtt_store_database.specs.committing.Together.{PutsTogether, PutsFront}
use Rattle.mqtt_store_database.proofs.committing_lemmas.Further.{front_then}
use Rattle.mqtt_store_database.proofs.committing.together.write_behind.Goals as goal

pub loop-one-preserved : goal.loop-one-preserved
loop-one-preserved g c =
    let old = state g.S.Store c.args.tx.now.conn.now in
    let mid = state g.S.Store c.loop-one.tx.conn.now in
    let new = state g.S.Store c.write_four.new.tx.conn.now in
    let did = c.in_ok-write_four.ensures in
    let inv = c.loop-one.invariant in
    let it = c.in-Some in
    let four = it.one.now ∷ it.two.now ∷ it.three.now ∷ it.four.now ∷ [] in
    let done : c.in_ok-write_four.field-0 ≡ true = search rules in
    let splits : c.loop-one.rest.now ≡ it.one.now ∷ it.two.now ∷ it.three.now ∷ it.four.now ∷ it.behind.now = search rules in
    let counted : length c.loop-one.rest.now ≡ length (it.one.now ∷ it.two.now ∷ it.three.now ∷ it.four.now ∷ it.behind.now) = ap length splits in
    record {
      same = did.same_reference ∙ inv.same;
      inside = stays_then old mid new inv.inside did.inside;
      put = λ making clean whole.
          let before = inv.put making (clean_before mid new did.inside clean) whole in
          let more = did.put making clean before.1 in
          let made = subst (λ (b : Bool). PutsTogether making c.args.known four b mid.now.trees new.now.trees) done more.0 in
          (front_then making c.args.known c.args.changes.now four it.behind.now c.loop-one.rest.now old.now.trees mid.now.trees new.now.trees splits before.0 made, more.1);
      fewer = omega arith;
    }

pub returns-then-not-branch-clause-put : goal.returns-then-not-branch-clause-put
returns-then-not-branch-clause-put g c = λ making clean whole.
    let old = state g.S.Store c.args.tx.now.conn.now in
    let mid = state g.S.Store c.loop-one.tx.conn.now in
    let new = state g.S.Store c.write_four.new.tx.conn.now in
    let did = c.in_ok-write_four.ensures in
    let it = c.in-Some in
    let done : c.in_ok-write_four.field-0 ≡ false = search rules in
    let before = c.loop-one.invariant.put making (clean_before mid new did.inside clean) whole in
    let more = did.put making clean before.1 in
    let same : new.now.trees ≡ mid.now.trees = subst (λ (b : Bool). PutsTogether making c.args.known (it.one.now ∷ it.two.now ∷ it.three.now ∷ it.four.now ∷ []) b mid.now.trees new.now.trees) done more.0 in
    (subst (λ (db : Trees). PutsFront making c.args.known c.args.changes.now c.loop-one.rest.now old.now.trees db) (sym same) before.0, more.1)

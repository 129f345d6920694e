use Rattle.std.proofs.Common.{◌≡◌, ◌+◌, [], ◌∷◌, ◌++◌, ◌∙◌, take, get_or, refl, arith}
use Rattle.std.proofs.lemmas.List.{take_more, take_all}
use Rattle.sqlite.specs.Held.{state}
use Rattle.mqtt_store_tables.proofs.messages_lemmas.Inside.{clean_before, stays_same, stays_then}
use Rattle.mqtt_store_tables.proofs.messages_lemmas.Sweeping.{sweeps_none, sweeps_then}
use Rattle.mqtt_store_tables.proofs.messages.sweeps.sweep_all.Goals as goal

pub loop-publication-init : goal.loop-publication-init
loop-publication-init g c =
    let old = state g.S.Store c.args.tx.now.conn.now in
    record { same = refl; inside = stays_same old; swept = λ making clean whole. (sweeps_none making old.now.trees, whole) }

pub loop-publication-preserved : goal.loop-publication-preserved
loop-publication-preserved g c =
    let old = state g.S.Store c.args.tx.now.conn.now in
    let mid = state g.S.Store c.loop-publication.tx.conn.now in
    let new = state g.S.Store c.sweep_number.new.tx.conn.now in
    let numbers = c.args.numbers.now in
    let at = c.loop-publication.publication-index in
    let did = c.in_ok-sweep_number.ensures in
    let inv = c.loop-publication.invariant in
    let e : take (at + 1) numbers ≡ take at numbers ++ get_or numbers at 0 ∷ [] = take_more numbers at 0 (omega arith) in
    record {
      same = did.same_reference ∙ inv.same;
      inside = stays_then old mid new inv.inside did.inside;
      swept = λ making clean whole.
          let first = inv.swept making (clean_before mid new did.inside clean) whole in
          let last = did.swept making clean first.1 in
          (rw e (sweeps_then making (take at numbers) (get_or numbers at 0 ∷ []) old.now.trees mid.now.trees new.now.trees first.0 last.0), last.1);
    }

pub returns-clause-swept : goal.returns-clause-swept
returns-clause-swept g c making clean whole =
    let numbers = c.args.numbers.now in
    let at = c.loop-publication.publication-index in
    let e : take at numbers ≡ numbers = take_all at numbers (omega arith) in
    let old = state g.S.Store c.args.tx.now.conn.now in
    let new = state g.S.Store c.loop-publication.tx.conn.now in
    let did = c.loop-publication.invariant.swept making clean whole in
    (rw e at did.0, did.1)

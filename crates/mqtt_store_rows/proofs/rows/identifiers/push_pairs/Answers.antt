use Rattle.std.proofs.Common.{ℕ, List, ◌++◌, sym, ap, subst, ◌∙◌}
use Rattle.std.specs.Prelude.{Some}
use Rattle.mqtt_store_rows.specs.values.Values.{IsIdentifier}
use Rattle.mqtt_store_rows.proofs.values_lemmas.PartLemmas.{all_push}
use Rattle.mqtt_store_rows.specs.rows.Rows.{pairs, ArePairs}
use Rattle.mqtt_store_rows.proofs.rows_lemmas.PairLemmas.{pairs_push, pairs_behind, not_empty, first_pair}
use Rattle.mqtt_store_rows.proofs.rows.identifiers.push_pairs.Goals as goal

pub returns-in_default-clause-err : goal.returns-in_default-clause-err
returns-in_default-clause-err c e ids are =
    let more = c.loop-rest.invariant.complete ids are in
    let f = first_pair c.loop-rest.rest.now more.0 (not_empty c.loop-rest.rest.now c.loop-rest-test.ensures) more.1 in
    c.in_default.ensures f.one f.after f.is f.range

pub loop-rest-preserved : goal.loop-rest-preserved
loop-rest-preserved c =
    let all = c.loop-rest.all in
    let n = c.in-Some.identifier in
    let after = c.in-Some.after.now in
    let found = c.in-Some.ensures in
    let held = c.loop-rest.invariant in
    rw c.in_ok-push.ensures.ok record {
      spelled = held.spelled ∙ (ap (λ (l : List ℕ). pairs all ++ l) found.0 ∙ sym (pairs_push all n after));
      range = all_push (λ (m : ℕ). IsIdentifier (Some m)) all n held.range found.1;
      complete = λ ids are. let more = held.complete ids are in pairs_behind n after more.0 found.1 (subst (ArePairs more.0) found.0 more.1);
    }

use Rattle.std.proofs.Common.{List, ℕ, sym, subst}
use Rattle.std.specs.Prelude.{IsTrue}
use Rattle.std.specs.List.{AllByRecursion}
use Rattle.std.specs.List.Sorted.{IsNonDecreasing, IsPermutation}
use Rattle.std.proofs.lemmas.List.Sorted.{IsNonDecreasingBy-from_sort, IsPermutation-sym}
use Rattle.mqtt_records.specs.state.Contents.{StoredMessage}
use Rattle.mqtt_store_rows.specs.rows.Gives.{numbers_in, is_among}
use Rattle.mqtt_store_rows.proofs.rows_lemmas.ReferredLemmas.{same_referred}
use Rattle.mqtt_store_rows.proofs.rows.referred.are_referred.Goals as goal

pub are_among-all-requires : goal.are_among-all-requires
are_among-all-requires c = subst IsNonDecreasing (sym c.deref.ensures.value) (IsNonDecreasingBy-from_sort (λ (n : ℕ). n) _ c.sort_unstable.ensures.sorted)

pub returns : goal.returns
returns c =
    let all = numbers_in c.args.records.now in
    let sorted = c.deref.result.now in
    let messages = c.args.messages.now in
    let says = c.are_among-all.ensures in
    let moved : IsPermutation all sorted = subst (λ (l : List ℕ). IsPermutation l sorted) c.in_ok-numbers.ensures
    (subst (λ (l : List ℕ). IsPermutation c.in_ok-numbers.numbers.items l) (sym c.deref.ensures.value) c.sort_unstable.ensures.permutation) in (
      λ t. same_referred sorted all messages (IsPermutation-sym all sorted moved) (subst (AllByRecursion (λ (m : StoredMessage). IsTrue (is_among m.publication sorted))) c.as_slice.ensures (says.0 t)),
      λ each. says.1 (subst (AllByRecursion (λ (m : StoredMessage). IsTrue (is_among m.publication sorted))) (sym c.as_slice.ensures) (same_referred all sorted messages moved each)),
    )

use Rattle.std.proofs.Common.{◌≡◌, List, ℕ, take, sym, subst, ◌∙◌}
use Rattle.std.proofs.lemmas.List.{take_all}
use Rattle.std.proofs.lemmas.List.Sorted.{IsNonDecreasingBy-from_sort}
use Rattle.sqlite_value.specs.Order.{Row}
use Rattle.mqtt_store_rows.specs.gathering.Thin.{AreCovered}
use Rattle.mqtt_store_rows.proofs.gathering_lemmas.CoverLemmas.{covers_next, covers_none, covered_moved}
use Rattle.mqtt_store_rows.proofs.gathering.messages.numbers_in.Goals.{in-Some+in_ok-push, in_default}
use Rattle.mqtt_store_rows.proofs.gathering.messages.numbers_in.Goals as goal

pub loop-row-preserved : goal.loop-row-preserved
loop-row-preserved c =
    let rows = c.args.kept.now in
    let numbers = c.loop-row.numbers.items in
    let i = c.loop-row.row-index in
    let row = c.row-item.result in
    let held = c.loop-row.invariant in
    elim c.match-counted.branch [
      | in-Some+in_ok-push w ↦ rw (w.numbers-is, w.in_ok-push.ensures.items) (covers_next numbers rows i row w.in-Some.number c.loop-row-test.true c.row-item.is held (sym c.value_at.ensures ∙ w.in-Some.ensures.0))
      | in_default w ↦ rw w.numbers-is (covers_none numbers rows i row c.loop-row-test.true c.row-item.is held (λ n holds counted. w.in_default.ensures n (c.value_at.ensures ∙ holds) counted))
    ]

pub returns-clause-order : goal.returns-clause-order
returns-clause-order c = IsNonDecreasingBy-from_sort (λ (n : ℕ). n) _ c.sort_unstable.ensures.sorted

pub returns-clause-covered : goal.returns-clause-covered
returns-clause-covered c =
    let rows = c.args.kept.now in
    let i = c.loop-row.row-index in
    let whole : take i rows ≡ rows = take_all i rows c.loop-row-test.false in
    let numbers = c.loop-row.numbers.items in
    covered_moved numbers c.sort_unstable.new.self.items rows c.sort_unstable.ensures.permutation (subst (λ (l : List Row). AreCovered numbers l) whole c.loop-row.invariant)

use Rattle.std.proofs.Common.{◌≡◌, ◌+◌, ℕ, Some, nat_eq, count_by, subst, sym, ap, ◌∙◌, arith}
use Rattle.mqtt_routes.specs.tree.Tree.{ArePlain, found_in_all, levels_behind}
use Rattle.mqtt_routes.proofs.tree_lemmas.TextLemmas.{next_behind}
use Rattle.mqtt_routes.proofs.tree.walk.matching.Goals as goal

pub loop-level-preserved : goal.loop-level-preserved
loop-level-preserved g c =
    let texts = g.F.Filters.texts c.args.filters.now in
    let name = c.args.name.now in
    let old = c.loop-level in
    let rest = c.next.new.self in
    let new = c.in_ok-runs-2.runs.items in
    let passed = c.in_ok-next.next.items in
    let is = c.in-Some.ensures.some in
    let behind : rest ≡ levels_behind (Some c.end_of.result) name =
    next_behind old.at c.in-Some.level.now name old.rest rest old.invariant.behind is ∙ ap (λ (n : ℕ). levels_behind (Some n) name) (sym c.end_of.ensures)
    in
    let there : levels_behind (Some c.end_of.result) c.as_str-text.result.now ≡ rest = ap (levels_behind (Some c.end_of.result)) c.as_str-text.ensures.value ∙ sym behind in
    record {
      runs = c.in_ok-runs-2.ensures.runs;
      plain = (subst ArePlain is old.invariant.plain).1;
      behind = behind;
      found = λ i.
          let settled = subst (λ ls. count_by (nat_eq i) c.settled-in-Some.new.found.items + found_in_all texts ls i new ≡ count_by (nat_eq i) c.pass.new.found.items + found_in_all texts ls i c.as_slice-in-Some.result.now) there (c.in_ok-runs-2.ensures.found i) in
          let same = ap (found_in_all texts rest i) c.as_slice-in-Some.ensures.value in
          let one = c.in_ok-next.ensures.found i rest in
          let first = ap (found_in_all texts old.rest i) c.as_slice.ensures.value in
          let whole = ap (λ ls. found_in_all texts ls i c.as_slice.result.now) is in
          let so_far = old.invariant.found i in
          omega (arith, settled, same, one, first, whole, so_far);
    }

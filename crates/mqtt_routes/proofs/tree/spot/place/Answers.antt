use Rattle.std.proofs.Common.{◌≡◌, ◌∷◌, ℕ, List, ⊎_elim, ap, ◌∙◌, arith}
use Rattle.std.proofs.lemmas.Bool.{cases_lt}
use Rattle.mqtt_routes.specs.tree.Tree.{in_order, rest_of}
use Rattle.mqtt_routes.proofs.tree_lemmas.OrderLemmas.{order_before, order_behind, order_tails}
use Rattle.mqtt_routes.proofs.tree.spot.place.Goals as goal

pub loop-level-preserved : goal.loop-level-preserved
loop-level-preserved g c =
    let texts = g.F.Filters.texts c.args.filters.now in
    let inv = c.loop-level.invariant in
    let run = c.loop-level.run in
    let new = c.narrowed-run.result in
    let says = c.narrowed-run.ensures in
    let l = c.in-Some.level.now in
    let others = c.next.new.self in
    let cut : c.loop-level.rest ≡ l ∷ others = c.in-Some.ensures.some in
    record {
      run = says.run;
      before = λ i a. ⊎_elim
          (λ below. inv.before i below)
          (λ from. inv.within_before i from (omega (arith, a, says.run.some, says.inside.1)) ∙ ap (λ (ls : List (List ℕ)). in_order (rest_of texts run i) ls) cut ∙ order_before l (rest_of texts run i) others (says.before i from a))
          (cases_lt i run.from);
      behind = λ i a b. ⊎_elim
          (λ under. inv.within_behind i (omega (arith, a, says.run.some, says.inside.0)) under ∙ ap (λ (ls : List (List ℕ)). in_order ls (rest_of texts run i)) cut ∙ order_behind l (rest_of texts run i) others (says.behind i a under))
          (λ over. inv.behind i over b)
          (cases_lt i run.to);
      within_before = λ i a b.
          inv.within_before i (omega (arith, a, says.inside.0)) (omega (arith, b, says.inside.1))
          ∙ ap (λ (ls : List (List ℕ)). in_order (rest_of texts run i) ls) cut
          ∙ ap (λ (fs : List (List ℕ)). in_order fs (l ∷ others)) (says.rest i a b)
          ∙ order_tails l (rest_of texts new i) others;
      within_behind = λ i a b.
          inv.within_behind i (omega (arith, a, says.inside.0)) (omega (arith, b, says.inside.1))
          ∙ ap (λ (ls : List (List ℕ)). in_order ls (rest_of texts run i)) cut
          ∙ ap (λ (fs : List (List ℕ)). in_order (l ∷ others) fs) (says.rest i a b)
          ∙ order_tails l others (rest_of texts new i);
    }

-- One message after the other.
use Rattle.std.proofs.Common.{◌≡◌, ◌+◌, ◌++◌, [], ◌∷◌, List, Vec, Global, Bor, map, drop, sym, ap, ◌∙◌}
use Rattle.std.proofs.lemmas.List.{map-append}
use Rattle.mqtt_topic.specs.names.Filters.{matching_part_of}
use Rattle.mqtt_topic.specs.names.Matching.{is_match}
use Rattle.mqtt_routes.specs.declared.routing.retained.Kept.{Kept}
use Rattle.mqtt_routes.specs.routing.Retained.{kept_for}
use Rattle.mqtt_routes.proofs.routing_lemmas.KeptLemmas.{one_found, one_passed}
use Rattle.mqtt_routes.proofs.routing.retained.KeptTable.kept_for.Goals.{then-matches+in_ok-push, else-matches}
use Rattle.mqtt_routes.proofs.routing.retained.KeptTable.kept_for.Goals as goal

pub loop-slot-preserved : goal.loop-slot-preserved
loop-slot-preserved g c =
    let text = matching_part_of c.args.filter.now in
    let l = c.loop-slot in
    let items = c.as_slice-slot-items.result.now in
    let before = map (λ (k : Bor (Kept g.row.M.Denot)). k.now) l.found.items in
    let k = c.slot-item.result in
    let is : is_match text k.topic ≡ c.matches.result = ap (λ (x : Kept g.row.M.Denot). is_match text x.topic) (sym c.slot.view_is) ∙ sym c.matches.ensures.answer in
    elim c.if-matches.branch [
      | then-matches+in_ok-push w ↦
          ap (λ (v : Vec (Bor (Kept g.row.M.Denot)) Global). map (λ (x : Bor (Kept g.row.M.Denot)). x.now) v.items ++ kept_for text (drop (l.slot-index + 1) items)) w.found-is
          ∙ ap (λ (xs : List (Bor (Kept g.row.M.Denot))). map (λ (x : Bor (Kept g.row.M.Denot)). x.now) xs ++ kept_for text (drop (l.slot-index + 1) items)) w.in_ok-push.ensures.items
          ∙ ap (λ (xs : List (Kept g.row.M.Denot)). xs ++ kept_for text (drop (l.slot-index + 1) items)) (map-append _ l.found.items _)
          ∙ ap (λ (x : Kept g.row.M.Denot). (before ++ x ∷ []) ++ kept_for text (drop (l.slot-index + 1) items)) c.slot.view_is
          ∙ one_found text items before l.slot-index k c.loop-slot-test.true c.slot-item.is (is ∙ w.if-matches.true)
          ∙ l.invariant
      | else-matches w ↦
          ap (λ (v : Vec (Bor (Kept g.row.M.Denot)) Global). map (λ (x : Bor (Kept g.row.M.Denot)). x.now) v.items ++ kept_for text (drop (l.slot-index + 1) items)) w.found-is
          ∙ one_passed text items before l.slot-index k c.loop-slot-test.true c.slot-item.is (is ∙ w.if-matches.false)
          ∙ l.invariant
    ]

-- One spot after the other.
use Rattle.std.proofs.Common.{◌≡◌, ◌++◌, get_or, slice_get, subst, sym, ap, ◌∙◌, append-nil}
use Rattle.std.proofs.lemmas.List.{drop_all, get_or_default}
use Rattle.mqtt_routes.specs.routing.Subscriptions.{AreInOrder, subs_of}
use Rattle.mqtt_routes.specs.routing.Found.{spots_in}
use Rattle.mqtt_routes.proofs.routing_lemmas.IndexLemmas.{nowhere}
use Rattle.mqtt_routes.proofs.routing_lemmas.FoundLemmas.{found_all, found_by, spot_next, spots_found}
use Rattle.mqtt_routes.proofs.routing.subscription_tree.SubscriptionTree.found.Goals.{in-Some+in_ok-push, in_default}
use Rattle.mqtt_routes.proofs.routing.subscription_tree.SubscriptionTree.found.Goals as goal

pub returns-clause-found : goal.returns-clause-found
returns-clause-found c =
    let p = c.args.publication.now in
    let xs = c.args.self.now.sessions in
    let zs = c.as_slice-spot-items.result.now in
    let order = subst AreInOrder (ap (λ h. h.sessions) c.self.view_is) c.show_order.ensures in
    let same : zs ≡ spots_in p xs = c.as_slice-spot-items.ensures.value ∙ c.in_ok-spots.ensures.spots in
    sym (append-nil c.loop-spot.found.items)
    ∙ sym (ap (λ ys. c.loop-spot.found.items ++ found_all xs ys) (drop_all c.loop-spot.spot-index zs c.loop-spot-test.false))
    ∙ c.loop-spot.invariant ∙ ap (found_all xs) same ∙ spots_found p xs order

pub loop-spot-preserved : goal.loop-spot-preserved
loop-spot-preserved c =
    let xs = c.args.self.now.sessions in
    let zs = c.as_slice-spot-items.result.now in
    let before = c.loop-spot.found.items in
    let z = get_or zs c.loop-spot.spot-index nowhere in
    let look = ap (λ h. slice_get (subs_of z.birth h.sessions) z.at) c.self.view_is in
    let made : c.match-row.found.items ≡ before ++ found_by z.birth (slice_get (subs_of z.birth xs) z.at) = elim c.match-row.branch [
      | in-Some+in_ok-push w ↦ ap (λ v. v.items) w.found-is ∙ w.in_ok-push.ensures.items ∙ ap (λ o. before ++ found_by z.birth o) (w.in-Some.ensures ∙ look)
      | in_default w ↦ ap (λ v. v.items) w.found-is ∙ sym (append-nil before) ∙ ap (λ o. before ++ found_by z.birth o) (w.in_default.ensures ∙ look)
    ] in
    spot_next xs zs c.loop-spot.spot-index z before c.match-row.found.items (found_all xs zs) c.loop-spot-test.true (get_or_default zs c.loop-spot.spot-index nowhere z c.loop-spot-test.true) made c.loop-spot.invariant

use Rattle.std.proofs.Common.{◌≤◌, get_or, length, take, subst, sym, ap, ◌∙◌, arith}
use Rattle.std.specs.List.Sorted.{IsPermutation}
use Rattle.std.proofs.lemmas.List.{take_all, get_or_read}
use Rattle.mqtt_routes.specs.tree.Tree.{AreOrdered, AreMatching}
use Rattle.mqtt_routes.specs.routing.Spots.{IsIndex, texts_of}
use Rattle.mqtt_routes.specs.routing.Subscriptions.{AreInOrder}
use Rattle.mqtt_routes.proofs.routing_lemmas.IndexLemmas.{nowhere, ordered_from}
use Rattle.mqtt_routes.proofs.routing_lemmas.RisingLemmas.{sorted_rises}
use Rattle.mqtt_routes.proofs.routing_lemmas.TopicLemmas.{are_moved, found_spots, found_within, numbers_next, spots_at}
use Rattle.mqtt_routes.proofs.routing.subscription_tree.SubscriptionTree.spots_to.Goals as goal

pub matching-requires : goal.matching-requires
matching-requires c =
    record { ordered = subst (λ h. AreOrdered (texts_of h.sessions h.spots)) c.self.view_is (ordered_from (texts_of c.self.inside.subscribers.sessions c.self.inside.spots.items) c.self.invariant.rising) }

pub index-requires : goal.index-requires
index-requires c =
    let now = c.args.self.now in
    let items = c.as_slice-number-items.result.now in
    let index = subst (λ h. IsIndex h.sessions h.spots) c.self.view_is c.self.invariant in
    let are = are_moved (texts_of now.sessions now.spots) c.args.publication.now.topic c.in_ok-found.found.items c.reverse.new.self.items c.reverse.ensures.permutation
    (subst (λ t. AreMatching (texts_of now.sessions now.spots) t c.in_ok-found.found.items) (ap (λ x. x.topic) c.publication.view_is) c.in_ok-found.ensures) in
    let own = subst (AreMatching (texts_of now.sessions now.spots) c.args.publication.now.topic) (sym c.as_slice-number-items.ensures.value) are in
    let less = found_within c.args.publication.now now.sessions now.spots items index own c.loop-number.number-index 0 c.loop-number-test.true in
    let long = ap (λ h. length h.spots) c.self.view_is in
    omega (arith, less, long, c.self.inside.spots.ok.0)

pub returns-clause-spots : goal.returns-clause-spots
returns-clause-spots c =
    let now = c.args.self.now in
    let found = c.reverse.new.self.items in
    let sorted = c.sort_unstable.new.self.items in
    let at = c.loop-number.number-index in
    let index = subst (λ h. IsIndex h.sessions h.spots) c.self.view_is c.self.invariant in
    let are = are_moved (texts_of now.sessions now.spots) c.args.publication.now.topic c.in_ok-found.found.items found c.reverse.ensures.permutation
    (subst (λ t. AreMatching (texts_of now.sessions now.spots) t c.in_ok-found.found.items) (ap (λ x. x.topic) c.publication.view_is) c.in_ok-found.ensures) in
    let order = subst AreInOrder (ap (λ h. h.sessions) c.self.view_is) c.show_order.ensures in
    let end : length found ≤ at = omega (arith, c.loop-number-test.false, ap length c.as_slice-number-items.ensures.value) in
    let raw = c.loop-number.invariant ∙ ap (λ ns. spots_at now.spots (take at ns)) c.as_slice-number-items.ensures.value ∙ ap (spots_at now.spots) (take_all at found end) in
    found_spots c.args.publication.now now.sessions now.spots found index are sorted order
    (subst (λ xs. IsPermutation xs sorted) raw c.sort_unstable.ensures.permutation)
    (sorted_rises sorted c.sort_unstable.ensures.sorted)

pub loop-number-preserved : goal.loop-number-preserved
loop-number-preserved c =
    let spots = c.args.self.now.spots in
    let items = c.as_slice-number-items.result.now in
    let at = c.loop-number.number-index in
    let z = c.index.result.now in
    let now = c.args.self.now in
    let index = subst (λ h. IsIndex h.sessions h.spots) c.self.view_is c.self.invariant in
    let are = are_moved (texts_of now.sessions now.spots) c.args.publication.now.topic c.in_ok-found.found.items c.reverse.new.self.items c.reverse.ensures.permutation
    (subst (λ t. AreMatching (texts_of now.sessions now.spots) t c.in_ok-found.found.items) (ap (λ x. x.topic) c.publication.view_is) c.in_ok-found.ensures) in
    let own = subst (AreMatching (texts_of now.sessions now.spots) c.args.publication.now.topic) (sym c.as_slice-number-items.ensures.value) are in
    let less = found_within c.args.publication.now now.sessions now.spots items index own at 0 c.loop-number-test.true in
    let long = ap (λ h. length h.spots) c.self.view_is in
    numbers_next spots items at 0 c.loop-number.spots.items c.push.new.self.items z c.loop-number-test.true
    (get_or_read c.self.inside.spots.items (get_or items at 0) z (omega (arith, less, long)) c.index.ensures nowhere ∙ ap (λ h. get_or h.spots (get_or items at 0) nowhere) c.self.view_is)
    c.in_ok-push.ensures.items c.loop-number.invariant

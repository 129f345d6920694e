use Rattle.std.proofs.Common.{◌≡◌, ℕ, true, false, cond, not, nat_eq, [], subst, sym, ap, ◌∙◌, rules, arith}
use Rattle.std.proofs.lemmas.Bool.Decides.{nat_tests}
use Rattle.std.proofs.lemmas.Fn.{filter_same}
use Rattle.mqtt_routes.specs.routing.Subscriptions.{subs_of}
use Rattle.mqtt_routes.specs.routing.Spots.{IsIndex}
use Rattle.mqtt_routes.proofs.routing_lemmas.SubsLemmas.{subs_of-without_session}
use Rattle.mqtt_routes.proofs.routing_lemmas.RemoveLemmas.{dropped_index, filter_birth}
use Rattle.mqtt_routes.proofs.routing.subscription_tree.SubscriptionTreeSubscriptionTable.drop_session.Goals as goal

turned : (b c : ℕ) → nat_eq b c ≡ false → nat_eq c b ≡ false
turned b c h = grind (arith, nat_tests)

itself : (b : ℕ) → nat_eq b b ≡ true
itself b = grind (arith, nat_tests)

pub invariant_of-self : goal.invariant_of-self
invariant_of-self c =
    let b = c.args.birth in
    let old = c.self.inside.subscribers.sessions in
    let new = c.drop_session.new.self.sessions in
    let is = c.drop_session.ensures in
    let left = filter_same _ (λ s. not (nat_eq s.birth b)) _ (λ s t f r. search rules) _ _ c.retain.ensures.filtered ∙ filter_birth b c.self.inside.spots.items in
    let others : (d : ℕ) → nat_eq b d ≡ false → subs_of d new ≡ subs_of d old = λ d h. ap (subs_of d) is ∙ subs_of-without_session b d old c.show_order.ensures ∙ ap (λ t. cond t [] (subs_of d old)) (turned b d h) in
    let gone = ap (subs_of b) is ∙ subs_of-without_session b b old c.show_order.ensures ∙ ap (λ t. cond t [] (subs_of b old)) (itself b) in
    subst (IsIndex new) (sym left) (dropped_index b old new others c.self.inside.spots.items gone c.self.invariant)

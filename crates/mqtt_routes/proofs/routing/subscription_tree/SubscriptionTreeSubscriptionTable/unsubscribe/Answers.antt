use Rattle.std.proofs.Common.{◌≡◌, ◌-◌, ◌<◌, ℕ, suc, true, false, cond, not, length, nat_eq, map, subst, sym, ap, ◌∙◌, rules, arith}
use Rattle.std.specs.Option.{is_some}
use Rattle.std.proofs.lemmas.Bool.Decides.{nat_tests}
use Rattle.std.proofs.lemmas.Fn.{filter_same}
use Rattle.mqtt_routes.specs.routing.Subscriptions.{has_filter, subs_of, without}
use Rattle.mqtt_routes.specs.routing.Spots.{IsIndex, is_spot, matched_at, moved_down}
use Rattle.mqtt_routes.proofs.routing_lemmas.SubsLemmas.{subs_of-unsubscribed, unsubscribed_none, place_of, without_below, without_above, without_long}
use Rattle.mqtt_routes.proofs.routing_lemmas.LeaveLemmas.{left_index, left_and_moved}
use Rattle.mqtt_routes.proofs.routing.subscription_tree.SubscriptionTreeSubscriptionTable.unsubscribe.Goals as goal

pub returns-clause-found : goal.returns-clause-found
returns-clause-found c = sym (ap is_some c.in-Some.is) ∙ c.number.ensures.found ∙ ap (λ (x : _). has_filter c.args.filter.now (subs_of c.args.birth x.sessions)) c.self.view_is

pub returns-in_default-clause-found : goal.returns-in_default-clause-found
returns-in_default-clause-found c = sym (ap is_some c.in_default.is) ∙ c.number.ensures.found ∙ ap (λ (x : _). has_filter c.args.filter.now (subs_of c.args.birth x.sessions)) c.self.view_is

pub returns-in_default-clause-after : goal.returns-in_default-clause-after
returns-in_default-clause-after c =
    let ss = ap (λ (x : _). has_filter c.args.filter.now (subs_of c.args.birth x.sessions)) c.self.view_is in
    sym (unsubscribed_none c.args.filter.now c.args.birth c.args.self.now.sessions (sym ss ∙ sym c.number.ensures.found ∙ ap is_some c.in_default.is))

turned : (b c : ℕ) → nat_eq b c ≡ false → nat_eq c b ≡ false
turned b c h = grind (arith, nat_tests)

itself : (b : ℕ) → nat_eq b b ≡ true
itself b = grind (arith, nat_tests)

pub invariant_of-self : goal.invariant_of-self
invariant_of-self c =
    let b = c.args.birth in
    let a = c.in-Some.at in
    let text = c.args.filter.now in
    let old = c.self.inside.subscribers.sessions in
    let new = c.unsubscribe.new.self.sessions in
    let spots = c.self.inside.spots.items in
    let subs = subs_of b old in
    let is = c.unsubscribe.ensures.after in
    let place = place_of text subs a (sym c.number.ensures.number ∙ c.in-Some.is) in
    let others : (d : ℕ) → nat_eq b d ≡ false → subs_of d new ≡ subs_of d old = λ d h. ap (subs_of d) is ∙ subs_of-unsubscribed b d text old c.show_order.ensures ∙ ap (λ t. cond t (without text subs) (subs_of d old)) (turned b d h) in
    let own : subs_of b new ≡ without text subs = ap (subs_of b) is ∙ subs_of-unsubscribed b b text old c.show_order.ensures ∙ ap (λ t. cond t (without text subs) (subs_of b old)) (itself b) in
    let below : (n : ℕ) → n < a → matched_at (subs_of b new) n ≡ matched_at subs n = λ n l. ap (λ ss. matched_at ss n) own ∙ without_below text subs n (omega (arith, l, place.0)) in
    let above : (n : ℕ) → a < n → matched_at (subs_of b new) (n - 1) ≡ matched_at subs n = λ n l.
    ap (λ ss. matched_at ss (n - 1)) own ∙ without_above text subs (n - 1) (omega (arith, l, place.0)) ∙ ap (matched_at subs) (let e : suc (n - 1) ≡ n = omega (arith, l) in e) in
    let long : suc (length (subs_of b new)) ≡ length subs = ap (λ ss. suc (length ss)) own ∙ without_long text subs (omega (arith, place.0, place.1)) in
    let left = filter_same _ (λ s. not (is_spot b a s)) _ (λ s t f r. search rules) _ _ c.retain.ensures.filtered in
    subst (IsIndex new) (sym (c.move_down.ensures.items ∙ ap (map (moved_down b a)) left ∙ left_and_moved b a spots))
    (left_index b a old new others below above long place.1 spots c.self.invariant)

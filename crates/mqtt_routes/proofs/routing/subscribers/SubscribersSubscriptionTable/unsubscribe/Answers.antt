use Rattle.std.proofs.Common.{subst, sym, ◌∙◌, ap}
use Rattle.mqtt_routes.specs.routing.Subscriptions.{AreInOrder, subscribers, has_filter, subs_of, unsubscribed}
use Rattle.mqtt_routes.proofs.routing_lemmas.SpotLemmas.{order-unsubscribed, subs_of-found, subs_of-none, unsubscribed-found, unsubscribed-none}
use Rattle.mqtt_routes.proofs.routing.subscribers.SubscribersSubscriptionTable.unsubscribe.Goals as goal

pub returns-in_default-clause-found : goal.returns-in_default-clause-found
returns-in_default-clause-found c =
    let b = c.args.birth in
    sym (ap (λ h. has_filter c.args.filter.now (subs_of b h.sessions)) (sym c.self.view_is) ∙ ap (has_filter c.args.filter.now) (subs_of-none b c.self.inside.sessions.entries (sym c.in_default.ensures.value)))

pub returns-in_default-clause-after : goal.returns-in_default-clause-after
returns-in_default-clause-after c =
    let b = c.args.birth in
    ap (λ (m : _). subscribers m.entries) c.get_mut.follows.holds-at-none ∙ sym (unsubscribed-none b c.args.filter.now c.self.inside.sessions.entries (sym c.in_default.ensures.value)) ∙ ap (λ h. unsubscribed b c.args.filter.now h.sessions) c.self.view_is

pub invariant_of-self-2 : goal.invariant_of-self-2
invariant_of-self-2 c =
    let b = c.args.birth in
    let es = c.self.inside.sessions.entries in
    let written = c.get_mut.follows.holds c.remove.new.self in
    let is = ap subscribers written.0 ∙ unsubscribed-found b c.in-Some.subscriptions.now c.args.filter.now c.remove.new.self es c.remove.ensures.after c.self.invariant c.in-Some.ensures.value in
    subst AreInOrder (sym is) (order-unsubscribed b c.args.filter.now (subscribers es) c.self.invariant)

pub returns-clause-found : goal.returns-clause-found
returns-clause-found c =
    let b = c.args.birth in
    let here = subs_of-found b c.in-Some.subscriptions.now c.self.inside.sessions.entries c.self.invariant c.in-Some.ensures.value in
    c.remove.ensures.found ∙ ap (has_filter c.args.filter.now) (sym here ∙ ap (λ h. subs_of b h.sessions) c.self.view_is)

pub returns-clause-after : goal.returns-clause-after
returns-clause-after c =
    let b = c.args.birth in
    let es = c.self.inside.sessions.entries in
    let written = c.get_mut.follows.holds c.remove.new.self in
    ap subscribers written.0 ∙ unsubscribed-found b c.in-Some.subscriptions.now c.args.filter.now c.remove.new.self es c.remove.ensures.after c.self.invariant c.in-Some.ensures.value ∙ ap (λ h. unsubscribed b c.args.filter.now h.sessions) c.self.view_is

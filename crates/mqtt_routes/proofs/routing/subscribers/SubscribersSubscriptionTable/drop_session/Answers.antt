use Rattle.std.proofs.Common.{subst, ◌∙◌, ap, sym}
use Rattle.mqtt_routes.specs.routing.Subscriptions.{AreInOrder, subscribers, without_session}
use Rattle.mqtt_routes.proofs.routing_lemmas.SpotLemmas.{order-without_session, without_session-remove_entry}
use Rattle.mqtt_routes.proofs.routing.subscribers.SubscribersSubscriptionTable.drop_session.Goals as goal

pub invariant_of-self : goal.invariant_of-self
invariant_of-self c =
    let es = c.self.inside.sessions.entries in
    let is = ap subscribers c.shift_remove-subscriptions.ensures.entries ∙ without_session-remove_entry c.args.birth es c.self.invariant in
    subst AreInOrder (sym is) (order-without_session c.args.birth (subscribers es) c.self.invariant)

pub returns : goal.returns
returns c =
    let es = c.self.inside.sessions.entries in
    ap subscribers c.shift_remove-subscriptions.ensures.entries ∙ without_session-remove_entry c.args.birth es c.self.invariant ∙ ap (λ h. without_session c.args.birth h.sessions) c.self.view_is

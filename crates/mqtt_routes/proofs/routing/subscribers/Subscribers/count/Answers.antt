use Rattle.std.proofs.Common.{length, sym, ap, ◌∙◌}
use Rattle.mqtt_routes.specs.routing.Subscriptions.{subs_of}
use Rattle.mqtt_routes.proofs.routing_lemmas.SpotLemmas.{subs_of-found, subs_of-none}
use Rattle.mqtt_routes.proofs.routing.subscribers.Subscribers.count.Goals as goal

pub returns-in-Some-clause-count : goal.returns-in-Some-clause-count
returns-in-Some-clause-count c =
    let here = subs_of-found c.args.birth c.in-Some.subscriptions.now c.self.inside.sessions.entries c.self.invariant c.in-Some.ensures.value in
    c.count.ensures.count ∙ ap length (sym here ∙ ap (λ h. subs_of c.args.birth h.sessions) c.self.view_is)

pub returns-in-None-clause-count : goal.returns-in-None-clause-count
returns-in-None-clause-count c =
    let none = ap (λ h. subs_of c.args.birth h.sessions) (sym c.self.view_is) ∙ subs_of-none c.args.birth c.self.inside.sessions.entries (sym c.in-None.ensures.value) in
    sym (ap length none)

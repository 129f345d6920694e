use Rattle.std.proofs.Common.{sym, ap, ◌∙◌}
use Rattle.mqtt_routes.specs.routing.Subscriptions.{has_filter, subs_of}
use Rattle.mqtt_routes.proofs.routing_lemmas.SpotLemmas.{subs_of-found, subs_of-none}
use Rattle.mqtt_routes.specs.routing.Spots.{number_of}
use Rattle.mqtt_routes.proofs.routing.subscribers.Subscribers.number.Goals as goal

pub returns-in-Some-clause-number : goal.returns-in-Some-clause-number
returns-in-Some-clause-number c =
    let here = subs_of-found c.args.birth c.in-Some.subscriptions.now c.self.inside.sessions.entries c.self.invariant c.in-Some.ensures.value in
    c.number.ensures.number ∙ ap (number_of c.args.filter.now) (sym here ∙ ap (λ h. subs_of c.args.birth h.sessions) c.self.view_is)

pub returns-in-None-clause-number : goal.returns-in-None-clause-number
returns-in-None-clause-number c =
    let none = ap (λ h. subs_of c.args.birth h.sessions) (sym c.self.view_is) ∙ subs_of-none c.args.birth c.self.inside.sessions.entries (sym c.in-None.ensures.value) in
    sym (ap (number_of c.args.filter.now) none)

pub returns-in-Some-clause-found : goal.returns-in-Some-clause-found
returns-in-Some-clause-found c =
    let here = subs_of-found c.args.birth c.in-Some.subscriptions.now c.self.inside.sessions.entries c.self.invariant c.in-Some.ensures.value in
    c.number.ensures.found ∙ ap (has_filter c.args.filter.now) (sym here ∙ ap (λ h. subs_of c.args.birth h.sessions) c.self.view_is)

pub returns-in-None-clause-found : goal.returns-in-None-clause-found
returns-in-None-clause-found c =
    let none = ap (λ h. subs_of c.args.birth h.sessions) (sym c.self.view_is) ∙ subs_of-none c.args.birth c.self.inside.sessions.entries (sym c.in-None.ensures.value) in
    sym (ap (has_filter c.args.filter.now) none)

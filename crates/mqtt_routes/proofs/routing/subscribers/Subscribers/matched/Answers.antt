use Rattle.std.proofs.Common.{sym, ap, ◌∙◌}
use Rattle.mqtt_routes.specs.routing.Subscriptions.{subs_of}
use Rattle.mqtt_routes.proofs.routing_lemmas.SpotLemmas.{subs_of-found, subs_of-none}
use Rattle.mqtt_routes.specs.routing.Spots.{matched_at}
use Rattle.mqtt_routes.proofs.routing.subscribers.Subscribers.matched.Goals as goal

pub returns-in-Some : goal.returns-in-Some
returns-in-Some c =
    let here = subs_of-found c.args.birth c.in-Some.subscriptions.now c.self.inside.sessions.entries c.self.invariant c.in-Some.ensures.value in
    c.matched.ensures ∙ ap (λ ss. matched_at ss c.args.at) (sym here ∙ ap (λ h. subs_of c.args.birth h.sessions) c.self.view_is)

pub returns-in-None : goal.returns-in-None
returns-in-None c =
    let none = ap (λ h. subs_of c.args.birth h.sessions) (sym c.self.view_is) ∙ subs_of-none c.args.birth c.self.inside.sessions.entries (sym c.in-None.ensures.value) in
    sym (ap (λ ss. matched_at ss c.args.at) none)

use Rattle.std.proofs.Common.{sym, ap, ◌∙◌}
use Rattle.mqtt_routes.specs.routing.Subscriptions.{subs_of}
use Rattle.mqtt_routes.proofs.routing_lemmas.SpotLemmas.{subs_of-found, subs_of-none}
use Rattle.mqtt_routes.proofs.routing.subscribers.Subscribers.near.Goals as goal

pub returns-in-Some-get_full-clause-some : goal.returns-in-Some-get_full-clause-some
returns-in-Some-get_full-clause-some c =
    sym (subs_of-found c.args.birth c.in-Some-get_full.own.now c.self.inside.sessions.entries c.self.invariant c.in-Some-get_full.ensures.value) ∙ ap (λ h. subs_of c.args.birth h.sessions) c.self.view_is

pub returns-in-None-clause-none : goal.returns-in-None-clause-none
returns-in-None-clause-none c =
    ap (λ h. subs_of c.args.birth h.sessions) (sym c.self.view_is) ∙ subs_of-none c.args.birth c.self.inside.sessions.entries (sym c.in-None.ensures.value)

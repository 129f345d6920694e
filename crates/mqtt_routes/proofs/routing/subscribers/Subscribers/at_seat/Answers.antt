use Rattle.std.proofs.Common.{nat_eq, sym, ap, ◌∙◌}
use Rattle.std.specs.Map.{lookup}
use Rattle.mqtt_routes.specs.routing.Subscriptions.{subs_of}
use Rattle.mqtt_routes.proofs.routing_lemmas.SpotLemmas.{subs_of-found}
use Rattle.mqtt_routes.proofs.routing.subscribers.Subscribers.at_seat.Goals as goal

pub returns-then-other-birth : goal.returns-then-other-birth
returns-then-other-birth c =
    let entries = c.self.inside.sessions.entries in
    let found = sym c.in-Some.ensures.value ∙ ap (λ k. lookup (nat_eq k) entries) c.if-other-birth.true in
    sym (subs_of-found c.args.birth c.in-Some.own.now entries c.self.invariant found) ∙ ap (λ h. subs_of c.args.birth h.sessions) c.self.view_is

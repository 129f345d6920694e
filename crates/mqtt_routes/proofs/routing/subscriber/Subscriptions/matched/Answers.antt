use Rattle.std.proofs.Common.{sym, ap, ◌∙◌}
use Rattle.mqtt_routes.specs.routing.Spots.{matched_at}
use Rattle.mqtt_routes.proofs.routing_lemmas.SubsLemmas.{matched_get, matched_none}
use Rattle.mqtt_routes.proofs.routing.subscriber.Subscriptions.matched.Goals as goal

pub returns-in-Some : goal.returns-in-Some
returns-in-Some c =
    c.matched.ensures
    ∙ sym (matched_get c.self.inside.rows.keys c.args.at c.in-Some.row.now (sym c.in-Some.ensures.key)) ∙ ap (λ h. matched_at h.subs c.args.at) c.self.view_is

pub returns-in-None : goal.returns-in-None
returns-in-None c =
    sym (matched_none c.self.inside.rows.keys c.args.at (sym c.in-None.ensures.key)) ∙ ap (λ h. matched_at h.subs c.args.at) c.self.view_is

use Rattle.std.proofs.Common.{◌∙◌, ◌++◌, ◌∷◌, [], ap, if◌then◌else◌, sym}
use Rattle.mqtt_routes.specs.routing.Subscriptions.{has_filter, put}
use Rattle.mqtt_routes.proofs.routing_lemmas.PlaceLemmas.{put-push}
use Rattle.mqtt_routes.proofs.routing.subscriber.Subscriptions.push.Goals as goal

pub returns-clause-ok : goal.returns-clause-ok
returns-clause-ok c =
    let keys = c.self.inside.rows.keys in
    let new = c.args.subscription in
    let absent = ap (λ h. has_filter new.filter h.subs) c.self.view_is ∙ c.requires in
    c.in_ok-insert.ensures.keys ∙ ap (λ s. if has_filter s.filter keys then keys else keys ++ s ∷ []) c.new.ensures ∙ ap (λ b. if b then keys else keys ++ new ∷ []) absent ∙ sym (put-push new keys absent) ∙ ap (λ h. put new h.subs) c.self.view_is

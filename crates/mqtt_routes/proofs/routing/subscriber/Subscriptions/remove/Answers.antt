use Rattle.std.proofs.Common.{◌∙◌, ap}
use Rattle.mqtt_routes.specs.routing.Subscriptions.{without}
use Rattle.mqtt_routes.proofs.routing_lemmas.PlaceLemmas.{without-remove_key}
use Rattle.mqtt_routes.proofs.routing.subscriber.Subscriptions.remove.Goals as goal

pub returns-clause-after : goal.returns-clause-after
returns-clause-after c = c.shift_remove.ensures.keys ∙ without-remove_key c.args.filter.now c.self.inside.rows.keys ∙ ap (λ h. without c.args.filter.now h.subs) c.self.view_is

use Rattle.std.proofs.Common.{◌∙◌, ap}
use Rattle.mqtt_routes.specs.routing.Retained.{forget}
use Rattle.mqtt_routes.proofs.routing_lemmas.KeptLemmas.{forget-remove_key}
use Rattle.mqtt_routes.proofs.routing.retained.KeptTable.forget.Goals as goal

pub returns-clause-after : goal.returns-clause-after
returns-clause-after g c = c.shift_remove.ensures.keys ∙ forget-remove_key c.args.topic.now c.self.inside.slots.keys ∙ ap (λ h. forget c.args.topic.now h.messages) c.self.view_is

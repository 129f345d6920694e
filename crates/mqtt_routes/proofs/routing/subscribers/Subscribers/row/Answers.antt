use Rattle.std.proofs.Common.{sym, ap, ◌∙◌, slice_get}
use Rattle.mqtt_routes.proofs.routing.subscribers.Subscribers.row.Goals as goal

pub returns-in-Some : goal.returns-in-Some
returns-in-Some c = c.row.ensures ∙ ap (λ ss. slice_get ss c.args.spot.at) c.in-Some.ensures.some

pub returns-in-None : goal.returns-in-None
returns-in-None c = sym (ap (λ ss. slice_get ss c.args.spot.at) c.in-None.ensures.none)

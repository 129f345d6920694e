use Rattle.std.proofs.Common.{ap₂, ◌∙◌}
use Rattle.mqtt_routes.specs.routing.Subscriptions.{HeldSessions}
use Rattle.mqtt_broker_step.specs.Stepping.{Stepping}
use Rattle.mqtt_broker.proofs.stored_lemmas.Slimmed.{rests, slim_back}
use Rattle.mqtt_broker.proofs.stored.parts.EngineParts.take_back.Goals as goal

pub make_slim-requires : goal.make_slim-requires
make_slim-requires g c = record { rest = rests c.args.self.now.step.limits c.args.self.now.step.start c.take_back.new.self c.take_back.ensures }

pub returns : goal.returns
returns g c =
    let p = c.args.self.now in
    ap₂ (λ (t : Stepping) (index : HeldSessions). record p { step = t; index = index })
    (c.make_slim.ensures ∙ slim_back c.args.birth c.args.places.now p.step c.take_back.new.self c.requires.slim c.requires.ordered c.take_back.ensures) c.take_back-2.ensures

use Rattle.std.proofs.Common.{ap, sym, ◌∙◌}
use Rattle.mqtt_rules.specs.step.Step.{copy_of}
use Rattle.mqtt_broker.specs.stored.Running.{Running}
use Rattle.mqtt_broker.proofs.stored_lemmas.Holders.{copy_filled}
use Rattle.mqtt_broker.proofs.stored.engine.Engine.copy_of.Goals as goal

pub returns : goal.returns
returns g c =
    let p = c.self.inside.parts in
    c.copy_of.ensures
    ∙ (sym (copy_filled c.args.line c.args.identifier (g.K.Keep.fillings p.keep) p.step.broker) ∙ ap (λ (r : Running _). copy_of c.args.line c.args.identifier r.broker) c.self.view_is)

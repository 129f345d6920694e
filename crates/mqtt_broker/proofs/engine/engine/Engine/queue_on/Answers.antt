use Rattle.std.proofs.Common.{◌≡◌, rules, sym, ap, ◌∙◌}
use Rattle.mqtt_broker.specs.engine.Looks.{queue_on_line}
use Rattle.mqtt_broker.specs.engine.Serving.{Serving, serving}
use Rattle.mqtt_broker.proofs.engine_lemmas.Looked.{lines_long}
use Rattle.mqtt_broker.proofs.engine.engine.Engine.queue_on.Goals as goal

pub returns : goal.returns
returns g c =
    let same : c.args.self.now ≡ serving c.self.inside.inner c.self.inside.framers = search rules in
    c.copies_on.ensures
    ∙ lines_long (g.K.Keep.fillings c.self.inside.inner.keep) c.args.line c.step.result.now.broker c.self.inside.inner.broker c.step.ensures.whole
    ∙ ap (λ (s : Serving _). queue_on_line c.args.line s.running.broker) (sym same)

use Rattle.std.proofs.Common.{◌≡◌, rules, Some, sym, ap, ◌∙◌}
use Rattle.mqtt_rules.specs.step.State.{session_named}
use Rattle.mqtt_broker.specs.engine.Serving.{Serving, serving}
use Rattle.mqtt_broker.proofs.engine_lemmas.Looked.{queue_length, queues_long}
use Rattle.mqtt_broker.proofs.engine.engine.Engine.queue_len.Goals as goal

pub returns-in-Some : goal.returns-in-Some
returns-in-Some g c =
    let same : c.args.self.now ≡ serving c.self.inside.inner c.self.inside.framers = search rules in
    ap Some c.len.ensures ∙ ap queue_length c.in-Some.ensures.found
    ∙ queues_long (g.K.Keep.fillings c.self.inside.inner.keep) c.args.client.now c.step.result.now.broker c.self.inside.inner.broker c.step.ensures.whole
    ∙ ap (λ (s : Serving _). queue_length (session_named c.args.client.now s.running.broker.records)) (sym same)

pub returns-in-None : goal.returns-in-None
returns-in-None g c =
    let same : c.args.self.now ≡ serving c.self.inside.inner c.self.inside.framers = search rules in
    ap queue_length c.in-None.ensures.found
    ∙ queues_long (g.K.Keep.fillings c.self.inside.inner.keep) c.args.client.now c.step.result.now.broker c.self.inside.inner.broker c.step.ensures.whole
    ∙ ap (λ (s : Serving _). queue_length (session_named c.args.client.now s.running.broker.records)) (sym same)

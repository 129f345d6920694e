use Rattle.std.proofs.Common.{ap, subst, ◌∙◌}
use Rattle.std.specs.Prelude.{Some, None}
use Rattle.mqtt_base.specs.Service.{qos_number}
use Rattle.mqtt_routes.specs.routing.Subscriptions.{HeldSessions}
use Rattle.mqtt_broker_queue.specs.subscribers.Indexing.{IsFound}
use Rattle.mqtt_broker_queue.proofs.subscribers_lemmas.Routed.{asked_of}
use Rattle.mqtt_broker_queue.proofs.subscribers.index.Index.find.Goals as goal

pub returns-in-Ok-clause-found : goal.returns-in-Ok-clause-found
returns-in-Ok-clause-found c =
    let by = c.in-Ok.ensures.routed in
    subst (λ (v : HeldSessions). IsFound c.args.message.now c.args.step.now v.sessions (Some c.in-Ok.routed)) c.self.view_is
    (asked_of c.args.step.now c.args.message.now c.self.inside.routes.table.sessions c.sender_of-sender.result.now c.topic-name.result.now c.number_of-qos.result c.retain-retain.result by.0
    (Some c.in-Ok.routed) c.sender_of-sender.ensures c.topic-name.ensures (c.number_of-qos.ensures ∙ ap qos_number c.qos.ensures) c.retain-retain.ensures by.1)

pub returns-in-Err-Full-clause-found : goal.returns-in-Err-Full-clause-found
returns-in-Err-Full-clause-found c =
    let by = rw c.in-Err-Full.field-0-is at c.in-Err-Full.ensures.refused in
    subst (λ (v : HeldSessions). IsFound c.args.message.now c.args.step.now v.sessions None) c.self.view_is
    (asked_of c.args.step.now c.args.message.now c.self.inside.routes.table.sessions c.sender_of-sender.result.now c.topic-name.result.now c.number_of-qos.result c.retain-retain.result by.0
    None c.sender_of-sender.ensures c.topic-name.ensures (c.number_of-qos.ensures ∙ ap qos_number c.qos.ensures) c.retain-retain.ensures by.1)

use Rattle.std.proofs.Common.{refl, sym, subst, ◌∙◌}
use Rattle.std.specs.Prelude.{IfErr, OnOk}
use Rattle.mqtt_flow.specs.declared.inbound.inflow.Published.TheVariants.{New}
use Rattle.mqtt_rules.specs.step.State.{session_at}
use Rattle.mqtt_rules.specs.step.Deeds.{Message}
use Rattle.mqtt_rules.specs.step.Inbound.{message_of, publish_by}
use Rattle.mqtt_broker_queue.specs.publications.Choosing.{DoesSome, LeavesSome}
use Rattle.mqtt_broker_queue.proofs.publications_lemmas.ByIdentifier.{message_is, message_lawful}
use Rattle.mqtt_broker_queue.proofs.publications_lemmas.Routed.{nothing_left}
use Rattle.mqtt_broker_queue.proofs.publications.meant.publish_new.Goals as goal

pub publish_fresh-done-requires-clause-lawful : goal.publish_fresh-done-requires-clause-lawful
publish_fresh-done-requires-clause-lawful g c =
    message_lawful c.args.topic.now c.args.publish.now c.in-Ok-Some.message (session_at c.args.birth c.args.step.now.broker.records)
    (sym c.in-Ok-Some.field-0-is ∙ c.in-Ok-Some.ensures.message) c.requires.lawful

pub returns-in-Ok-Some-clause-ok : goal.returns-in-Ok-Some-clause-ok
returns-in-Ok-Some-clause-ok g c = λ l s number stands.
    subst (λ (m : Message). OnOk c.publish_fresh-done.result (DoesSome (λ env. publish_by New env l s c.args.publish.now m) c.args.step.now c.publish_fresh-done.new.step))
    (message_is c.args.topic.now c.args.publish.now c.in-Ok-Some.message (session_at c.args.birth c.args.step.now.broker.records) s
    (sym c.in-Ok-Some.field-0-is ∙ c.in-Ok-Some.ensures.message) stands)
    (c.publish_fresh-done.ensures.ok l s c.args.publish.now number stands refl)

pub returns-in-Ok-Some-clause-left : goal.returns-in-Ok-Some-clause-left
returns-in-Ok-Some-clause-left g c = λ l s number stands.
    subst (λ (m : Message). IfErr c.publish_fresh-done.result (λ fault. LeavesSome (λ env. publish_by New env l s c.args.publish.now m) fault c.args.step.now c.publish_fresh-done.new.step))
    (message_is c.args.topic.now c.args.publish.now c.in-Ok-Some.message (session_at c.args.birth c.args.step.now.broker.records) s
    (sym c.in-Ok-Some.field-0-is ∙ c.in-Ok-Some.ensures.message) stands)
    (c.publish_fresh-done.ensures.left l s c.args.publish.now number stands refl)

pub returns-in-Err-clause-left : goal.returns-in-Err-clause-left
returns-in-Err-clause-left g c = λ l s number stands.
    nothing_left (λ env. publish_by New env l s c.args.publish.now (message_of s.client c.args.topic.now c.args.publish.now))
    c.in-Err.fault c.args.step.now c.args.step.now c.in-Err.ensures.fault refl

use Rattle.std.proofs.Common.{◌≡◌, refl, ap, ◌∙◌}
use Rattle.mqtt_flow.specs.declared.inbound.inflow.Published.TheVariants.{New, Again}
use Rattle.mqtt_records.specs.declared.state.session.Session.{Session}
use Rattle.mqtt_rules.specs.step.State.{session_at}
use Rattle.mqtt_rules.specs.step.Inbound.{message_of, standing}
use Rattle.mqtt_broker_queue.proofs.publications_lemmas.ByIdentifier.{again_does, again_leaves, by_left, by_some, same_row}
use Rattle.mqtt_broker_queue.proofs.publications.meant.publish_by.Goals as goal

pub returns-in-Ok-clause-ok : goal.returns-in-Ok-clause-ok
returns-in-Ok-clause-ok g c = λ l s number stands.
    let same : c.in-Some.session.now ≡ s = same_row c.in-Some.session.now s (session_at c.args.birth c.args.step.now.broker.records) c.in-Some.ensures stands in
    let is : New ≡ standing c.args.publish.now.delivery s.inbound = c.in-New.ensures ∙ ap (λ (x : Session). standing c.args.publish.now.delivery x.inbound) same in
    by_some l s c.args.publish.now (message_of s.client c.args.topic.now c.args.publish.now) New c.args.step.now c.publish_new.new.step is
    (c.in-Ok.ensures.ok l s number stands)

pub returns-in-Err-clause-left : goal.returns-in-Err-clause-left
returns-in-Err-clause-left g c = λ l s number stands.
    let same : c.in-Some.session.now ≡ s = same_row c.in-Some.session.now s (session_at c.args.birth c.args.step.now.broker.records) c.in-Some.ensures stands in
    let is : New ≡ standing c.args.publish.now.delivery s.inbound = c.in-New.ensures ∙ ap (λ (x : Session). standing c.args.publish.now.delivery x.inbound) same in
    by_left l s c.args.publish.now (message_of s.client c.args.topic.now c.args.publish.now) New c.in-Err.fault c.args.step.now c.publish_new.new.step is
    (c.in-Err.ensures.left l s number stands)

pub returns-in-Ok-publish_again-clause-ok : goal.returns-in-Ok-publish_again-clause-ok
returns-in-Ok-publish_again-clause-ok g c = λ l s number stands.
    let same : c.in-Some.session.now ≡ s = same_row c.in-Some.session.now s (session_at c.args.birth c.args.step.now.broker.records) c.in-Some.ensures stands in
    let is : Again ≡ standing c.args.publish.now.delivery s.inbound = c.in-Again.ensures ∙ ap (λ (x : Session). standing c.args.publish.now.delivery x.inbound) same in
    again_does l s c.args.publish.now (message_of s.client c.args.topic.now c.args.publish.now) c.args.step.now c.publish_again.new.step is
    (c.in-Ok-publish_again.ensures.ok l s c.args.publish.now (message_of s.client c.args.topic.now c.args.publish.now) number refl)

pub returns-in-Err-publish_again-clause-left : goal.returns-in-Err-publish_again-clause-left
returns-in-Err-publish_again-clause-left g c = λ l s number stands.
    let same : c.in-Some.session.now ≡ s = same_row c.in-Some.session.now s (session_at c.args.birth c.args.step.now.broker.records) c.in-Some.ensures stands in
    let is : Again ≡ standing c.args.publish.now.delivery s.inbound = c.in-Again.ensures ∙ ap (λ (x : Session). standing c.args.publish.now.delivery x.inbound) same in
    again_leaves l s c.args.publish.now (message_of s.client c.args.topic.now c.args.publish.now) c.in-Err-publish_again.fault c.args.step.now c.publish_again.new.step is
    (c.in-Err-publish_again.ensures.left l s c.args.publish.now (message_of s.client c.args.topic.now c.args.publish.now) number refl)

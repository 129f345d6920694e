use Rattle.std.proofs.Common.{refl}
use Rattle.mqtt_rules.specs.step.Inbound.{publish_by}
use Rattle.mqtt_flow.specs.declared.inbound.inflow.Published.TheVariants.{New}
use Rattle.mqtt_broker_queue.specs.publications.Choosing.{IsAccepted}
use Rattle.mqtt_broker_step.proofs.Doing.{on_ok, if_err}
use Rattle.mqtt_broker_queue.proofs.publications_lemmas.Routed.{nothing_left, refused_does, refused_leaves, taken_err, taken_ok}
use Rattle.mqtt_broker_queue.proofs.publications.fresh.publish_fresh.Goals as goal

pub returns-in-Ok-Refused-clause-ok : goal.returns-in-Ok-Refused-clause-ok
returns-in-Ok-Refused-clause-ok g c = λ l s p number stands same.
    on_ok c.publish_refused.result
    (refused_does l s p c.args.message.now c.args.step.now c.publish_refused.new.step (rw c.in-Ok-Refused.field-0-is at c.in-Ok-Refused.ensures.routed))
    (c.publish_refused.ensures.ok l s p c.args.message.now number same)

pub returns-in-Ok-Refused-clause-left : goal.returns-in-Ok-Refused-clause-left
returns-in-Ok-Refused-clause-left g c = λ l s p number stands same.
    if_err c.publish_refused.result
    (λ fault. refused_leaves l s p c.args.message.now fault c.args.step.now c.publish_refused.new.step (rw c.in-Ok-Refused.field-0-is at c.in-Ok-Refused.ensures.routed))
    (c.publish_refused.ensures.left l s p c.args.message.now number same)

pub publish_taken-requires-clause-spelled : goal.publish_taken-requires-clause-spelled
publish_taken-requires-clause-spelled g c =
    let taken : IsAccepted c.args.message.now c.args.step.now c.in-Ok-Accepted.copies c.in-Ok-Accepted.wanted =
    rw c.in-Ok-Accepted.field-0-is at c.in-Ok-Accepted.ensures.routed in
    taken.spelled

pub publish_taken-requires-clause-room : goal.publish_taken-requires-clause-room
publish_taken-requires-clause-room g c =
    let taken : IsAccepted c.args.message.now c.args.step.now c.in-Ok-Accepted.copies c.in-Ok-Accepted.wanted =
    rw c.in-Ok-Accepted.field-0-is at c.in-Ok-Accepted.ensures.routed in
    taken.room

pub returns-in-Ok-Accepted-clause-ok : goal.returns-in-Ok-Accepted-clause-ok
returns-in-Ok-Accepted-clause-ok g c = λ l s p number stands same.
    taken_ok l s p c.args.message.now c.publish_taken.result c.in-Ok-Accepted.copies c.in-Ok-Accepted.wanted c.args.step.now c.publish_taken.new.step
    (rw c.in-Ok-Accepted.field-0-is at c.in-Ok-Accepted.ensures.routed)
    (λ choice wanted. c.publish_taken.ensures.ok choice l s p number stands same wanted)

pub returns-in-Ok-Accepted-clause-left : goal.returns-in-Ok-Accepted-clause-left
returns-in-Ok-Accepted-clause-left g c = λ l s p number stands same.
    taken_err l s p c.args.message.now c.publish_taken.result c.in-Ok-Accepted.copies c.in-Ok-Accepted.wanted c.args.step.now c.publish_taken.new.step
    (rw c.in-Ok-Accepted.field-0-is at c.in-Ok-Accepted.ensures.routed)
    (λ choice wanted. c.publish_taken.ensures.left choice l s p number stands same wanted)

pub returns-in-Err-clause-left : goal.returns-in-Err-clause-left
returns-in-Err-clause-left g c = λ l s p number stands same.
    nothing_left (λ env. publish_by New env l s p c.args.message.now) c.in-Err.fault c.args.step.now c.args.step.now c.in-Err.ensures.fault refl

pub route-requires-clause-serves : goal.route-requires-clause-serves
route-requires-clause-serves g c = c.requires.serves

pub route-requires-clause-lawful : goal.route-requires-clause-lawful
route-requires-clause-lawful g c = c.requires.lawful

pub returns-in-Ok-Refused-clause-serves : goal.returns-in-Ok-Refused-clause-serves
returns-in-Ok-Refused-clause-serves g c = c.route.ensures.serves

pub returns-in-Ok-Accepted-clause-serves : goal.returns-in-Ok-Accepted-clause-serves
returns-in-Ok-Accepted-clause-serves g c = c.route.ensures.serves

pub returns-in-Err-clause-serves : goal.returns-in-Err-clause-serves
returns-in-Err-clause-serves g c = c.route.ensures.serves

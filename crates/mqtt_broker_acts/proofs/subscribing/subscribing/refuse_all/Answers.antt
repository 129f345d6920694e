use Rattle.std.proofs.Common.{◌∙◌}
use Rattle.mqtt_broker_step.proofs.Doing.{on_ok, if_err}
use Rattle.mqtt_broker_acts.proofs.subscribing_lemmas.Subscribed.{refused_ok, refused_left}
use Rattle.mqtt_broker_acts.proofs.subscribing.subscribing.refuse_all.Goals as goal

pub returns-clause-ok : goal.returns-clause-ok
returns-clause-ok c = λ s.
    on_ok c.offer_suback.result
    (refused_ok c.args.line s c.args.packet.now c.largest_on-largest.result c.deref.result.now c.args.step.now c.offer_suback.new.step c.largest_on-largest.ensures (c.deref.ensures.value ∙ c.in_ok-codes.ensures))
    c.offer_suback.ensures.ok

pub returns-clause-left : goal.returns-clause-left
returns-clause-left c = λ s.
    if_err c.offer_suback.result
    (λ fault. refused_left c.args.line s c.args.packet.now c.largest_on-largest.result c.deref.result.now fault c.args.step.now c.offer_suback.new.step c.largest_on-largest.ensures (c.deref.ensures.value ∙ c.in_ok-codes.ensures))
    c.offer_suback.ensures.left

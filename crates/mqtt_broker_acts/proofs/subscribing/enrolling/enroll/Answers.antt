use Rattle.std.proofs.Common.{refl, sym}
use Rattle.mqtt_broker_acts.proofs.subscribing_lemmas.Enrolled.{made, may_enroll}
use Rattle.mqtt_broker_acts.proofs.subscribing.enrolling.enroll.Goals as goal

pub subscribe-requires : goal.subscribe-requires
subscribe-requires c = λ s found.
    let w = made c.args.text c.args.options c.args.identifier in
    may_enroll c.args.birth c.in-Ok.number c.in-Some.session.now s w c.subscription_of-subscription.result c.args.step.now c.count.new.self c.requires c.in-Ok.ensures.ok
    (sym c.in-Some.ensures) found (c.subscription_of-subscription.ensures w refl refl refl)

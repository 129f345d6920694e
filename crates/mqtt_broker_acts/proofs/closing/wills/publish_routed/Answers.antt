use Rattle.std.proofs.Common.{refl, subst}
use Rattle.mqtt_rules.specs.step.Deeds.{FromWill, Whose}
use Rattle.mqtt_broker_step.proofs.Doing.{on_ok, if_err}
use Rattle.mqtt_broker_queue.specs.publications.Choosing.{IsRouted, IsRefused, IsAccepted}
use Rattle.mqtt_broker_queue.specs.declared.publications.router.Routing.{Routing}
use Rattle.mqtt_broker_acts.proofs.closing_lemmas.Willed.{refused_is, refused_left, refused_same, accepted_is, accepted_left}
use Rattle.mqtt_broker_acts.proofs.closing.wills.publish_routed.Goals as goal

pub returns-in-Refused-clause-ok : goal.returns-in-Refused-clause-ok
returns-in-Refused-clause-ok c = λ who birth client.
    let m = c.args.message.now in
    let w : IsRefused m c.args.step.now = subst (λ (r : Routing). IsRouted m c.args.step.now r) c.in-Refused.is c.requires.routed in
    on_ok c.refuse.result (refused_is m who c.args.step.now c.refuse.new.step w) (c.refuse.ensures.ok who birth client)

pub returns-in-Refused-clause-sessions : goal.returns-in-Refused-clause-sessions
returns-in-Refused-clause-sessions c =
    let who : Whose = record { birth = c.args.birth; client = c.args.message.now.sender } in
    on_ok c.refuse.result (refused_same who c.args.step.now c.refuse.new.step) (c.refuse.ensures.ok who refl refl)

pub returns-in-Refused-clause-left : goal.returns-in-Refused-clause-left
returns-in-Refused-clause-left c = λ who.
    let m = c.args.message.now in
    let w : IsRefused m c.args.step.now = subst (λ (r : Routing). IsRouted m c.args.step.now r) c.in-Refused.is c.requires.routed in
    if_err c.refuse.result (λ fault. refused_left m who fault c.args.step.now c.refuse.new.step w) (c.refuse.ensures.left who)

pub returns-in-Accepted-clause-ok : goal.returns-in-Accepted-clause-ok
returns-in-Accepted-clause-ok c = λ who birth client.
    let m = c.args.message.now in
    let copies = c.in-Accepted.copies in
    let w : IsAccepted m c.args.step.now copies c.in-Accepted.wanted = subst (λ (r : Routing). IsRouted m c.args.step.now r) c.in-Accepted.is c.requires.routed in
    on_ok c.publish.result (accepted_is m who copies c.in-Accepted.wanted c.args.step.now c.publish.new.step w) (c.publish.ensures.ok FromWill)

pub returns-in-Accepted-clause-left : goal.returns-in-Accepted-clause-left
returns-in-Accepted-clause-left c = λ who.
    let m = c.args.message.now in
    let copies = c.in-Accepted.copies in
    let w : IsAccepted m c.args.step.now copies c.in-Accepted.wanted = subst (λ (r : Routing). IsRouted m c.args.step.now r) c.in-Accepted.is c.requires.routed in
    if_err c.publish.result (λ fault. accepted_left m who copies c.in-Accepted.wanted fault c.args.step.now c.publish.new.step w) (c.publish.ensures.left FromWill)

use Rattle.std.proofs.Common.{List, map, ap, sym, subst, ◌∙◌}
use Rattle.std.specs.Prelude.{OnOk, IfErr}
use Rattle.std.proofs.lemmas.List.{map-id}
use Rattle.mqtt_base.specs.declared.session.Cause.TheVariants.{Direct}
use Rattle.mqtt_broker_step.specs.Stepping.{Does, Leaves}
use Rattle.mqtt_broker_queue.specs.declared.publications.copies.Addressee.{Addressee}
use Rattle.mqtt_broker_queue.specs.publications.Copies.{addressee, copies_for}
use Rattle.mqtt_broker_queue.specs.publications.Delivering.{addressed_all, delivers_all}
use Rattle.mqtt_broker_queue.specs.publications.Whom.{all_of}
use Rattle.mqtt_broker_queue.proofs.publications.delivering.deliver_by.Goals as goal

pub returns-in-Routed-clause-ok : goal.returns-in-Routed-clause-ok
returns-in-Routed-clause-ok c =
    let p = c.args.common.now in
    subst (λ (all : List Addressee). OnOk c.deliver_to.result (Does (delivers_all (addressed_all (copies_for p all))) c.args.step.now c.deliver_to.new.step))
    (ap (map (addressee Direct)) c.direct.ensures ∙ sym (ap all_of c.in-Routed.is)) c.deliver_to.ensures.ok

pub returns-in-Routed-clause-left : goal.returns-in-Routed-clause-left
returns-in-Routed-clause-left c =
    let p = c.args.common.now in
    subst (λ (all : List Addressee). IfErr c.deliver_to.result (λ fault. Leaves (delivers_all (addressed_all (copies_for p all))) fault c.args.step.now c.deliver_to.new.step))
    (ap (map (addressee Direct)) c.direct.ensures ∙ sym (ap all_of c.in-Routed.is)) c.deliver_to.ensures.left

pub returns-in-Listed-clause-ok : goal.returns-in-Listed-clause-ok
returns-in-Listed-clause-ok c =
    let p = c.args.common.now in
    subst (λ (all : List Addressee). OnOk c.deliver_to-in-Listed.result (Does (delivers_all (addressed_all (copies_for p all))) c.args.step.now c.deliver_to-in-Listed.new.step))
    (map-id c.as_slice.result.now ∙ (c.as_slice.ensures.value ∙ sym (ap all_of c.in-Listed.is))) c.deliver_to-in-Listed.ensures.ok

pub returns-in-Listed-clause-left : goal.returns-in-Listed-clause-left
returns-in-Listed-clause-left c =
    let p = c.args.common.now in
    subst (λ (all : List Addressee). IfErr c.deliver_to-in-Listed.result (λ fault. Leaves (delivers_all (addressed_all (copies_for p all))) fault c.args.step.now c.deliver_to-in-Listed.new.step))
    (map-id c.as_slice.result.now ∙ (c.as_slice.ensures.value ∙ sym (ap all_of c.in-Listed.is))) c.deliver_to-in-Listed.ensures.left

use Rattle.std.proofs.Common.{ℕ, subst, sym}
use Rattle.std.specs.Prelude.{OnOk, IfErr}
use Rattle.mqtt_records.specs.declared.messages.message.MessageCopy.{MessageCopy}
use Rattle.mqtt_rules.specs.step.Deeds.{always, of_session}
use Rattle.mqtt_rules.specs.step.Outbound.{enter_deeds}
use Rattle.mqtt_broker_step.specs.Stepping.{Does, Leaves}
use Rattle.mqtt_broker_queue.specs.queues.Entering.{HasEnteredAt, HasRoomAt}
use Rattle.mqtt_broker_queue.specs.publications.Copies.{copy_for}
use Rattle.mqtt_broker_queue.proofs.publications.delivering.enter_copy.Goals as goal

pub enter-requires-clause-room : goal.enter-requires-clause-room
enter-requires-clause-room g c = subst (λ (birth : ℕ). HasRoomAt birth c.args.step.now) (sym c.birth.ensures) c.requires.room

pub returns-in-Ok-clause-ok : goal.returns-in-Ok-clause-ok
returns-in-Ok-clause-ok g c =
    let whole = copy_for c.args.common.now (g.T.Addressed.addressee c.args.to.now) in
    subst (λ (birth : ℕ). OnOk c.enter.result (Does (λ env. of_session birth (λ s. always (enter_deeds env whole s))) c.args.step.now c.enter.new.step)) c.birth.ensures
    (subst (λ (copy : MessageCopy). OnOk c.enter.result (Does (λ env. of_session c.birth.result (λ s. always (enter_deeds env copy s))) c.args.step.now c.enter.new.step))
    c.in-Ok.ensures c.enter.ensures.ok)

pub returns-in-Ok-clause-entered : goal.returns-in-Ok-clause-entered
returns-in-Ok-clause-entered g c =
    subst (λ (birth : ℕ). OnOk c.enter.result (HasEnteredAt birth c.args.step.now c.enter.new.step)) c.birth.ensures c.enter.ensures.entered

pub returns-in-Ok-clause-left : goal.returns-in-Ok-clause-left
returns-in-Ok-clause-left g c =
    let whole = copy_for c.args.common.now (g.T.Addressed.addressee c.args.to.now) in
    subst (λ (birth : ℕ). IfErr c.enter.result (λ fault. Leaves (λ env. of_session birth (λ s. always (enter_deeds env whole s))) fault c.args.step.now c.enter.new.step)) c.birth.ensures
    (subst (λ (copy : MessageCopy). IfErr c.enter.result (λ fault. Leaves (λ env. of_session c.birth.result (λ s. always (enter_deeds env copy s))) fault c.args.step.now c.enter.new.step))
    c.in-Ok.ensures c.enter.ensures.left)

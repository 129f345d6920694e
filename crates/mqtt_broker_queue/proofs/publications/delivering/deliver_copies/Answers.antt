use Rattle.std.proofs.Common.{List, subst}
use Rattle.std.specs.Prelude.{OnOk, IfErr}
use Rattle.mqtt_records.specs.declared.messages.message.MessageCopy.{MessageCopy}
use Rattle.mqtt_broker_step.specs.Stepping.{Does, Leaves}
use Rattle.mqtt_broker_queue.specs.publications.Delivering.{addressed_all, delivers_all}
use Rattle.mqtt_broker_queue.proofs.publications.delivering.deliver_copies.Goals as goal

pub returns-clause-ok : goal.returns-clause-ok
returns-clause-ok c =
    subst (λ (copies : List MessageCopy). OnOk c.deliver_in_room-done.result (Does (delivers_all (addressed_all copies)) c.args.step.now c.deliver_in_room-done.new.step))
    c.copies.view_is c.deliver_in_room-done.ensures.ok

pub returns-clause-left : goal.returns-clause-left
returns-clause-left c =
    subst (λ (copies : List MessageCopy). IfErr c.deliver_in_room-done.result (λ fault. Leaves (delivers_all (addressed_all copies)) fault c.args.step.now c.deliver_in_room-done.new.step))
    c.copies.view_is c.deliver_in_room-done.ensures.left

use Rattle.mqtt_rules.specs.step.Deeds.{FromClient}
use Rattle.mqtt_broker_step.proofs.Doing.{on_ok, if_err}
use Rattle.mqtt_broker_queue.specs.publications.Delivering.{addressed_all}
use Rattle.mqtt_broker_queue.proofs.publications_lemmas.Accepted.{room_stays, whose_stay, published_is, accept_left, retain_left, deliver_left}
use Rattle.mqtt_broker_queue.proofs.publications.publishing.publish.Goals as goal

pub deliver_copies-requires-clause-room : goal.deliver_copies-requires-clause-room
deliver_copies-requires-clause-room c =
    room_stays FromClient c.in-Ok.number c.args.message.now (addressed_all c.args.copies) c.args.step.now c.accept.new.self c.retain.new.step
    (c.in-Ok.ensures.ok FromClient c.args.message.now) c.in-Ok-retain.ensures.ok c.requires.room

pub returns-in-Ok-retain-clause-ok : goal.returns-in-Ok-retain-clause-ok
returns-in-Ok-retain-clause-ok c = λ origin.
    on_ok c.deliver_copies.result
    (published_is origin c.in-Ok.number c.args.message.now (addressed_all c.args.copies) c.args.step.now c.accept.new.self c.retain.new.step c.deliver_copies.new.step
    c.in-Ok.ensures.number (c.in-Ok.ensures.ok origin c.args.message.now) c.in-Ok-retain.ensures.ok)
    c.deliver_copies.ensures.ok

pub returns-in-Ok-retain-clause-sessions : goal.returns-in-Ok-retain-clause-sessions
returns-in-Ok-retain-clause-sessions c =
    on_ok c.deliver_copies.result
    (whose_stay FromClient c.in-Ok.number c.args.message.now c.args.step.now c.accept.new.self c.retain.new.step c.deliver_copies.new.step
    (c.in-Ok.ensures.ok FromClient c.args.message.now) c.in-Ok-retain.ensures.ok)
    c.deliver_copies.ensures.sessions

pub returns-in-Ok-retain-clause-left : goal.returns-in-Ok-retain-clause-left
returns-in-Ok-retain-clause-left c = λ origin.
    if_err c.deliver_copies.result
    (λ fault. deliver_left origin c.in-Ok.number c.args.message.now (addressed_all c.args.copies) fault c.args.step.now c.accept.new.self c.retain.new.step c.deliver_copies.new.step
    c.in-Ok.ensures.number (c.in-Ok.ensures.ok origin c.args.message.now) c.in-Ok-retain.ensures.ok)
    c.deliver_copies.ensures.left

pub returns-in-Err-retain-clause-left : goal.returns-in-Err-retain-clause-left
returns-in-Err-retain-clause-left c = λ origin.
    retain_left origin c.in-Ok.number c.args.message.now (addressed_all c.args.copies) c.in-Err-retain.fault c.args.step.now c.accept.new.self c.retain.new.step
    c.in-Ok.ensures.number (c.in-Ok.ensures.ok origin c.args.message.now) c.in-Err-retain.ensures.left

pub returns-in-Err-clause-left : goal.returns-in-Err-clause-left
returns-in-Err-clause-left c = λ origin.
    accept_left origin c.args.message.now (addressed_all c.args.copies) c.in-Err.fault c.args.step.now c.accept.new.self (c.in-Err.ensures.left origin c.args.message.now)

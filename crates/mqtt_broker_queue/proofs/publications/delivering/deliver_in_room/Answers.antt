use Rattle.std.proofs.Common.{sym, subst}
use Rattle.std.specs.Prelude.{OnOk, IfErr}
use Rattle.mqtt_broker_step.specs.Stepping.{Stepping, Does, Leaves}
use Rattle.mqtt_broker_queue.specs.publications.Copies.{copies_for}
use Rattle.mqtt_broker_queue.specs.publications.Delivering.{addressed_all, delivers_all, HasRoomIn, SameSessions}
use Rattle.mqtt_broker_queue.specs.publications.Whom.{all_of}
use Rattle.mqtt_broker_queue.proofs.publications_lemmas.Leading.{nothing_leaves}
use Rattle.mqtt_broker_queue.proofs.publications.delivering.deliver_in_room.Goals as goal

pub deliver_by-requires-clause-room : goal.deliver_by-requires-clause-room
deliver_by-requires-clause-room c =
    let all = addressed_all (copies_for c.args.common.now (all_of c.args.whom.now)) in
    subst (λ (s : Stepping). HasRoomIn s all) (sym c.make_room.ensures.same) c.requires.room

pub returns-in-Ok-clause-ok : goal.returns-in-Ok-clause-ok
returns-in-Ok-clause-ok c =
    let all = addressed_all (copies_for c.args.common.now (all_of c.args.whom.now)) in
    subst (λ (s : Stepping). OnOk c.deliver_by.result (Does (delivers_all all) s c.deliver_by.new.step)) c.make_room.ensures.same c.deliver_by.ensures.ok

pub returns-in-Ok-clause-sessions : goal.returns-in-Ok-clause-sessions
returns-in-Ok-clause-sessions c =
    subst (λ (s : Stepping). OnOk c.deliver_by.result (SameSessions s.broker.records c.deliver_by.new.step.broker.records)) c.make_room.ensures.same c.deliver_by.ensures.sessions

pub returns-in-Ok-clause-left : goal.returns-in-Ok-clause-left
returns-in-Ok-clause-left c =
    let all = addressed_all (copies_for c.args.common.now (all_of c.args.whom.now)) in
    subst (λ (s : Stepping). IfErr c.deliver_by.result (λ fault. Leaves (delivers_all all) fault s c.deliver_by.new.step)) c.make_room.ensures.same c.deliver_by.ensures.left

pub returns-in-Err-clause-left : goal.returns-in-Err-clause-left
returns-in-Err-clause-left c =
    let all = addressed_all (copies_for c.args.common.now (all_of c.args.whom.now)) in
    nothing_leaves (delivers_all all) c.in-Err.fault c.args.step.now c.make_room.new.step c.in-Err.ensures.fault c.make_room.ensures.same

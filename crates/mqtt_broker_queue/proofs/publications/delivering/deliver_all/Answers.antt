use Rattle.std.proofs.Common.{◌≡◌, ◌∷◌, length, rules, arith}
use Rattle.mqtt_broker_step.specs.Stepping.{Leaves}
use Rattle.mqtt_broker_queue.specs.publications.Delivering.{addressed_all, delivers_all}
use Rattle.mqtt_broker_queue.proofs.publications_lemmas.Delivered.{hands_room, hands_step, hands_left, hands_last}
use Rattle.mqtt_broker_queue.proofs.publications.delivering.deliver_all.Goals as goal

pub deliver_one-requires-clause-room : goal.deliver_one-requires-clause-room
deliver_one-requires-clause-room c =
    let steps : c.loop-copy.copy-iterator.rest.items ≡ c.in-Some.copy ∷ c.next.new.self.rest.items = search rules in
    hands_room c.in-Some.copy c.next.new.self.rest.items c.loop-copy.copy-iterator.rest.items c.args.copies.items c.args.step.now c.loop-copy.step
    steps c.loop-copy.invariant

pub loop-copy-preserved : goal.loop-copy-preserved
loop-copy-preserved c =
    let steps : c.loop-copy.copy-iterator.rest.items ≡ c.in-Some.copy ∷ c.next.new.self.rest.items = search rules in
    hands_step c.in-Some.copy c.next.new.self.rest.items c.loop-copy.copy-iterator.rest.items c.args.copies.items c.args.step.now c.loop-copy.step c.deliver_one.new.step
    steps c.loop-copy.invariant c.in_ok-deliver_one.ensures.ok c.in_ok-deliver_one.ensures.entered

pub returns-in_err-deliver_one-clause-left : goal.returns-in_err-deliver_one-clause-left
returns-in_err-deliver_one-clause-left c =
    let steps : c.loop-copy.copy-iterator.rest.items ≡ c.in-Some.copy ∷ c.next.new.self.rest.items = search rules in
    let left : Leaves (delivers_all (addressed_all c.args.copies.items)) c.in_err-deliver_one.field-0.0 c.args.step.now c.deliver_one.new.step =
    hands_left c.in-Some.copy c.next.new.self.rest.items c.loop-copy.copy-iterator.rest.items c.args.copies.items c.in_err-deliver_one.field-0.0 c.args.step.now c.loop-copy.step c.deliver_one.new.step
    steps c.loop-copy.invariant c.in_err-deliver_one.ensures.left in
    search (rules, left)

pub returns-clause-ok : goal.returns-clause-ok
returns-clause-ok c =
    let none : length c.loop-copy.copy-iterator.rest.items ≡ 0 = omega (arith, c.in-None.ensures.steps, c.loop-copy.copy-iterator.rest.ok) in
    hands_last c.loop-copy.copy-iterator.rest.items c.args.copies.items c.args.step.now c.loop-copy.step none c.loop-copy.invariant

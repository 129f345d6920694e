use Rattle.std.proofs.Common.{◌≡◌, ◌∷◌, length, rules, arith}
use Rattle.mqtt_broker_step.specs.Stepping.{IsLeft}
use Rattle.mqtt_broker_acts.specs.subscribing.Bringing.{late_sends}
use Rattle.mqtt_broker_acts.proofs.subscribing_lemmas.LateCopies.{sends_spelled, sends_step, sends_left, sends_last}
use Rattle.mqtt_broker_acts.proofs.subscribing.late.send_late.Goals as goal

pub send_one-requires : goal.send_one-requires
send_one-requires c =
    let steps : c.loop-copy.copy-iterator.rest.items ≡ c.in-Some.copy ∷ c.next.new.self.rest.items = search rules in
    sends_spelled c.args.line c.in-Some.copy c.next.new.self.rest.items c.loop-copy.copy-iterator.rest.items c.args.copies.items c.args.step.now c.loop-copy.step steps c.loop-copy.invariant

pub loop-copy-preserved : goal.loop-copy-preserved
loop-copy-preserved c =
    let steps : c.loop-copy.copy-iterator.rest.items ≡ c.in-Some.copy ∷ c.next.new.self.rest.items = search rules in
    sends_step c.args.line c.in-Some.copy c.next.new.self.rest.items c.loop-copy.copy-iterator.rest.items c.args.copies.items c.args.step.now c.loop-copy.step c.send_one.new.step
    steps c.loop-copy.invariant c.in_ok-send_one.ensures.ok

pub returns-in_err-send_one-clause-left : goal.returns-in_err-send_one-clause-left
returns-in_err-send_one-clause-left c =
    let steps : c.loop-copy.copy-iterator.rest.items ≡ c.in-Some.copy ∷ c.next.new.self.rest.items = search rules in
    let left : IsLeft (late_sends c.args.line c.args.copies.items) c.in_err-send_one.field-0.0 c.args.step.now c.send_one.new.step =
    sends_left c.args.line c.in-Some.copy c.next.new.self.rest.items c.loop-copy.copy-iterator.rest.items c.args.copies.items c.in_err-send_one.field-0.0 c.args.step.now c.loop-copy.step c.send_one.new.step
    steps c.loop-copy.invariant c.in_err-send_one.ensures.left in
    search (rules, left)

pub returns-clause-ok : goal.returns-clause-ok
returns-clause-ok c =
    let none : length c.loop-copy.copy-iterator.rest.items ≡ 0 = omega (arith, c.in-None.ensures.steps, c.loop-copy.copy-iterator.rest.ok) in
    sends_last c.args.line c.loop-copy.copy-iterator.rest.items c.args.copies.items c.args.step.now c.loop-copy.step none c.loop-copy.invariant

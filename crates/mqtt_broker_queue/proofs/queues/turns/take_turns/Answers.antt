use Rattle.std.proofs.Common.{◌≡◌, ◌∷◌, length, rules, arith, subst, sym}
use Rattle.mqtt_broker_step.specs.Stepping.{IsLeft}
use Rattle.mqtt_broker_queue.specs.queues.Turning.{takes_turns}
use Rattle.mqtt_broker_queue.proofs.queues_lemmas.Taking.{Taking, taking_first, taking_next, taking_left, taking_last}
use Rattle.mqtt_broker_queue.proofs.queues.turns.take_turns.Goals as goal

pub loop-taken-init : goal.loop-taken-init
loop-taken-init c =
    let is : c.into_iter-taken-iterator.result.rest.items ≡ c.args.turns.items = search rules in
    subst (λ rs. Taking rs c.args.turns.items c.args.line c.args.birth c.args.step.now c.args.step.now) (sym is)
    (taking_first c.args.turns.items c.args.line c.args.birth c.args.step.now c.requires)

pub loop-taken-preserved : goal.loop-taken-preserved
loop-taken-preserved c =
    let steps : c.loop-taken.taken-iterator.rest.items ≡ c.in-Some.taken ∷ c.next.new.self.rest.items = search rules in
    taking_next c.in-Some.taken c.next.new.self.rest.items c.loop-taken.taken-iterator.rest.items c.args.turns.items c.args.line c.args.birth c.args.step.now c.loop-taken.step
    steps c.loop-taken.invariant c.turn.new.step c.in_ok-turn.ensures.ok

pub returns-in_err-turn-clause-left : goal.returns-in_err-turn-clause-left
returns-in_err-turn-clause-left c =
    let steps : c.loop-taken.taken-iterator.rest.items ≡ c.in-Some.taken ∷ c.next.new.self.rest.items = search rules in
    let left : IsLeft (takes_turns c.args.line c.args.birth c.args.turns.items) c.in_err-turn.field-0.0 c.args.step.now c.turn.new.step =
    taking_left c.in-Some.taken c.next.new.self.rest.items c.loop-taken.taken-iterator.rest.items c.args.turns.items c.args.line c.args.birth c.args.step.now c.loop-taken.step
    steps c.loop-taken.invariant c.in_err-turn.field-0.0 c.turn.new.step c.in_err-turn.ensures.left in
    search (rules, left)

pub returns-clause-ok : goal.returns-clause-ok
returns-clause-ok c =
    let none : length c.loop-taken.taken-iterator.rest.items ≡ 0 = omega (arith, c.in-None.ensures.steps, c.loop-taken.taken-iterator.rest.ok) in
    taking_last c.loop-taken.taken-iterator.rest.items c.args.turns.items c.args.line c.args.birth c.args.step.now c.loop-taken.step none c.loop-taken.invariant

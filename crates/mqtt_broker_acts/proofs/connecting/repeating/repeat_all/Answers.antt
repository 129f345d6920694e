use Rattle.std.proofs.Common.{◌≡◌, List, ◌∷◌, length, rules, arith, sym, subst}
use Rattle.std.specs.Prelude.{⊤, Result, Err, IfErr}
use Rattle.mqtt_flow.specs.declared.outbound.entry.Turn.{Turn}
use Rattle.mqtt_rules.specs.step.Deeds.{always}
use Rattle.mqtt_broker_step.specs.declared.fault.StepFault.{StepFault}
use Rattle.mqtt_broker_step.specs.Stepping.{IsLeft}
use Rattle.mqtt_broker_acts.specs.connecting.Connecting.{repeats}
use Rattle.mqtt_broker_acts.proofs.connecting_lemmas.GoingOn.{GoesOn, goes_first, sends_next, sends_left, sends_last}
use Rattle.mqtt_broker_acts.proofs.connecting.repeating.repeat_all.Goals as goal

pub loop-turn-init : goal.loop-turn-init
loop-turn-init c =
    let is : c.into_iter-turn-iterator.result.rest.items ≡ c.args.turns.items = search rules in
    subst (λ (ts : List Turn). GoesOn (repeats c.args.line ts) (repeats c.args.line c.args.turns.items) c.args.step.now c.args.step.now) (sym is)
    (goes_first (repeats c.args.line c.args.turns.items) c.args.step.now)

pub loop-turn-preserved : goal.loop-turn-preserved
loop-turn-preserved c =
    let steps : c.loop-turn.turn-iterator.rest.items ≡ c.in-Some.turn ∷ c.next.new.self.rest.items = search rules in
    sends_next c.args.line c.in-Some.turn c.next.new.self.rest.items c.loop-turn.turn-iterator.rest.items c.args.turns.items c.args.step.now c.loop-turn.step c.repeat.new.step
    steps c.loop-turn.invariant c.in_ok-repeat.ensures.ok

pub returns-in_err-repeat-clause-left : goal.returns-in_err-repeat-clause-left
returns-in_err-repeat-clause-left c =
    let steps : c.loop-turn.turn-iterator.rest.items ≡ c.in-Some.turn ∷ c.next.new.self.rest.items = search rules in
    let left : IsLeft (always (repeats c.args.line c.args.turns.items)) c.in_err-repeat.field-0.0 c.args.step.now c.repeat.new.step =
    sends_left c.args.line c.in-Some.turn c.next.new.self.rest.items c.loop-turn.turn-iterator.rest.items c.args.turns.items c.in_err-repeat.field-0.0 c.args.step.now c.loop-turn.step c.repeat.new.step
    steps c.loop-turn.invariant c.in_err-repeat.ensures.left in
    let is : c.from_residual.result ≡ Err c.in_err-repeat.field-0.0 = search rules in
    subst (λ (r : Result ⊤ StepFault). IfErr r (λ fault. IsLeft (always (repeats c.args.line c.args.turns.items)) fault c.args.step.now c.repeat.new.step)) (sym is) left

pub returns-clause-ok : goal.returns-clause-ok
returns-clause-ok c =
    let none : length c.loop-turn.turn-iterator.rest.items ≡ 0 = omega (arith, c.in-None.ensures.steps, c.loop-turn.turn-iterator.rest.ok) in
    sends_last c.args.line c.loop-turn.turn-iterator.rest.items c.args.turns.items c.args.step.now c.loop-turn.step none c.loop-turn.invariant

use Rattle.std.proofs.Common.{◌≡◌, ◌+◌, List, ◌∷◌, ℕ, suc, drop, drop-cons, get_or, length, rules, arith, ap, sym, subst, ◌∙◌}
use Rattle.std.specs.Prelude.{⊤, Result, Err, IfErr}
use Rattle.std.proofs.lemmas.List.{length-drop}
use Rattle.mqtt_rules.specs.step.Step.{opening}
use Rattle.mqtt_broker_step.specs.declared.fault.StepFault.{StepFault}
use Rattle.mqtt_broker.specs.stored.Closing.{LeftSome}
use Rattle.mqtt_broker.proofs.stored_lemmas.Going.{IsGoing, going_end, going_first, going_left, going_on, next_willed, shutting_first, shutting_left, shutting_on}
use Rattle.mqtt_broker.proofs.stored.closing.close_each.Goals as goal

pub settle_next-requires-clause-lawful : goal.settle_next-requires-clause-lawful
settle_next-requires-clause-lawful c =
    let steps : c.loop-birth.birth-iterator.rest.items ≡ c.in-Some.birth ∷ c.next.new.self.rest.items = search rules in
    next_willed c.args.step.now c.loop-birth.step c.loop-birth.index.sessions c.loop-birth.birth-iterator.rest.items c.in-Some.birth c.next.new.self.rest.items steps c.loop-birth.invariant

pub loop-birth-preserved : goal.loop-birth-preserved
loop-birth-preserved c =
    let steps : c.loop-birth.birth-iterator.rest.items ≡ c.in-Some.birth ∷ c.next.new.self.rest.items = search rules in
    going_on c.args.step.now c.loop-birth.step c.loop-birth.index.sessions c.loop-birth.birth-iterator.rest.items c.in-Some.birth c.next.new.self.rest.items steps c.loop-birth.invariant
    c.settle_next.new.step c.settle_next.new.index.sessions c.in_ok-settle_next.ensures.ok c.in_ok-settle_next.ensures.indexed c.in_ok-settle_next.ensures.serves

pub returns-in_err-settle_next-clause-left : goal.returns-in_err-settle_next-clause-left
returns-in_err-settle_next-clause-left c =
    let fault = c.in_err-settle_next.field-0.0 in
    let steps : c.loop-birth.birth-iterator.rest.items ≡ c.in-Some.birth ∷ c.next.new.self.rest.items = search rules in
    let left : LeftSome opening fault c.args.step.now c.settle_next.new.step =
    going_left c.args.step.now c.loop-birth.step c.loop-birth.index.sessions c.loop-birth.birth-iterator.rest.items c.in-Some.birth c.next.new.self.rest.items steps c.loop-birth.invariant
    fault c.settle_next.new.step c.in_err-settle_next.ensures.left in
    let is : c.from_residual-in_err-settle_next.result ≡ Err fault = search rules in
    subst (λ (r : Result ⊤ StepFault). IfErr r (λ e. LeftSome opening e c.args.step.now c.settle_next.new.step)) (sym is) left

pub returns-clause-ok : goal.returns-clause-ok
returns-clause-ok c =
    let none : length c.loop-birth.birth-iterator.rest.items ≡ 0 = omega (arith, c.in-None.ensures.steps, c.loop-birth.birth-iterator.rest.ok) in
    going_end c.args.step.now c.loop-birth.step c.loop-birth.index.sessions c.loop-birth.birth-iterator.rest.items none c.loop-birth.invariant

pub returns-clause-serves : goal.returns-clause-serves
returns-clause-serves c = c.loop-birth.invariant.serves

pub loop-connected-init : goal.loop-connected-init
loop-connected-init c =
    let its = c.as_slice-connected-items.ensures.value ∙ c.requires.births in
    shutting_first c.args.step.now c.args.index.now.sessions c.as_slice-connected-items.result.now its c.requires.coherent c.requires.indexed c.requires.serves

pub loop-connected-preserved : goal.loop-connected-preserved
loop-connected-preserved c =
    let items : List ℕ = c.as_slice-connected-items.result.now in
    let i : ℕ = c.loop-connected.connected-index in
    let next : suc i ≡ i + 1 = omega arith in
    let steps : drop i items ≡ get_or items i 0 ∷ drop (i + 1) items = drop-cons items i 0 c.loop-connected-test.true ∙ ap (λ (k : ℕ). get_or items i 0 ∷ drop k items) next in
    shutting_on c.args.step.now c.loop-connected.step c.args.index.now.sessions (drop i items) (get_or items i 0) (drop (i + 1) items) steps c.loop-connected.invariant
    c.shut.new.step c.in_ok-shut.ensures.ok

pub returns-in_err-shut-clause-left : goal.returns-in_err-shut-clause-left
returns-in_err-shut-clause-left c =
    let items : List ℕ = c.as_slice-connected-items.result.now in
    let i : ℕ = c.loop-connected.connected-index in
    let fault = c.in_err-shut.field-0.0 in
    let next : suc i ≡ i + 1 = omega arith in
    let steps : drop i items ≡ get_or items i 0 ∷ drop (i + 1) items = drop-cons items i 0 c.loop-connected-test.true ∙ ap (λ (k : ℕ). get_or items i 0 ∷ drop k items) next in
    let left : LeftSome opening fault c.args.step.now c.shut.new.step =
    shutting_left c.args.step.now c.loop-connected.step c.args.index.now.sessions (drop i items) (get_or items i 0) (drop (i + 1) items) steps c.loop-connected.invariant
    fault c.shut.new.step c.in_err-shut.ensures.left in
    let is : c.from_residual.result ≡ Err fault = search rules in
    subst (λ (r : Result ⊤ StepFault). IfErr r (λ e. LeftSome opening e c.args.step.now c.shut.new.step)) (sym is) left

pub loop-birth-init : goal.loop-birth-init
loop-birth-init c =
    let s = c.args.step.now in
    let items : List ℕ = c.as_slice-connected-items.result.now in
    let i : ℕ = c.loop-connected.connected-index in
    let is : c.into_iter-birth-iterator.result.rest.items ≡ c.args.births.items = search rules in
    let left = length-drop i items in
    let none : length (drop i items) ≡ 0 = omega (arith, left, c.loop-connected-test.false) in
    subst (λ (ns : List ℕ). IsGoing s c.loop-connected.step c.args.index.now.sessions ns) (sym is)
    (going_first s c.loop-connected.step c.args.index.now.sessions c.args.births.items (drop i items) c.requires.births c.requires.coherent c.requires.sources none c.loop-connected.invariant)

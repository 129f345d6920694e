use Rattle.std.proofs.Common.{◌≡◌, refl, rules, sym, subst, inl, inr}
use Rattle.std.specs.Prelude.{⊤, Result, Err, IfErr, None}
use Rattle.mqtt_broker_step.specs.declared.fault.StepFault.{StepFault}
use Rattle.mqtt_broker_step.specs.Stepping.{Leaves}
use Rattle.mqtt_broker_step.proofs.Doing.{on_ok, if_err}
use Rattle.mqtt_broker_queue.specs.publications.Choosing.{LeavesSome}
use Rattle.mqtt_broker_queue.proofs.publications_lemmas.Some.{does_then, leaves_first, leaves_then, some_then, some_left_first, some_left_then, then_some, then_some_left}
use Rattle.mqtt_broker_acts.specs.closing.Wills.{will_at}
use Rattle.mqtt_broker_acts.specs.connecting.Preparing.{clears_if, settles, settles_and_clears}
use Rattle.mqtt_broker_acts.proofs.connecting_lemmas.Prepared.{some_none, some_serves, some_willed}
use Rattle.mqtt_broker_acts.proofs.connecting_lemmas.Steady.{steady_settle}
use Rattle.mqtt_broker_acts.proofs.connecting.preparing.settle_and_clear.Goals as goal

pub clear_standing-requires-clause-serves : goal.clear_standing-requires-clause-serves
clear_standing-requires-clause-serves g c = λ x found.
    c.settle_standing.ensures.serves _
    (some_serves (g.R.Router.serves c.args.router.now) c.args.birth (settles c.args.birth) c.args.step.now c.settle_standing.new.step
    (λ env. steady_settle c.args.birth env c.args.birth refl) c.in_ok-settle_standing.ensures.ok c.requires.serves x found)

pub clear_standing-requires-clause-lawful : goal.clear_standing-requires-clause-lawful
clear_standing-requires-clause-lawful g c =
    some_willed c.args.birth (settles c.args.birth) c.args.step.now c.settle_standing.new.step
    (λ env. steady_settle c.args.birth env c.args.birth refl) c.in_ok-settle_standing.ensures.ok c.requires.lawful

pub returns-clause-ok : goal.returns-clause-ok
returns-clause-ok g c =
    let s = c.args.step.now in
    let s1 = c.settle_standing.new.step in
    let s2 = c.clear_standing.new.step in
    elim c.in_ok-settle_standing.ensures.once [
      | inl gone ↦ on_ok c.clear_standing.result (some_then (settles c.args.birth) (clears_if c.args.clean_start c.args.birth) s s1 s2 c.in_ok-settle_standing.ensures.ok) (c.clear_standing.ensures.quiet gone)
      | inr does ↦ on_ok c.clear_standing.result (then_some (settles c.args.birth) (clears_if c.args.clean_start c.args.birth) s s1 s2 does) c.clear_standing.ensures.ok
    ]

pub returns-clause-left : goal.returns-clause-left
returns-clause-left g c =
    let s = c.args.step.now in
    let s1 = c.settle_standing.new.step in
    let s2 = c.clear_standing.new.step in
    elim c.in_ok-settle_standing.ensures.once [
      | inl gone ↦ if_err c.clear_standing.result (λ fault. some_left_then (settles c.args.birth) (clears_if c.args.clean_start c.args.birth) fault s s1 s2 c.in_ok-settle_standing.ensures.ok) (c.clear_standing.ensures.quiet_left gone)
      | inr does ↦ if_err c.clear_standing.result (λ fault. then_some_left (settles c.args.birth) (clears_if c.args.clean_start c.args.birth) fault s s1 s2 does) c.clear_standing.ensures.left
    ]

pub returns-clause-quiet : goal.returns-clause-quiet
returns-clause-quiet g c = λ none.
    let s = c.args.step.now in
    let s1 = c.settle_standing.new.step in
    let gone : will_at c.args.birth c.settle_standing.new.step.broker.records ≡ None = some_none c.args.birth (settles c.args.birth) s s1
    (λ env. steady_settle c.args.birth env c.args.birth refl) c.in_ok-settle_standing.ensures.ok none in
    on_ok c.clear_standing.result (does_then (settles c.args.birth) (clears_if c.args.clean_start c.args.birth) s s1 c.clear_standing.new.step (c.in_ok-settle_standing.ensures.quiet none)) (c.clear_standing.ensures.quiet gone)

pub returns-clause-quiet_left : goal.returns-clause-quiet_left
returns-clause-quiet_left g c = λ none.
    let s = c.args.step.now in
    let s1 = c.settle_standing.new.step in
    let gone : will_at c.args.birth c.settle_standing.new.step.broker.records ≡ None = some_none c.args.birth (settles c.args.birth) s s1
    (λ env. steady_settle c.args.birth env c.args.birth refl) c.in_ok-settle_standing.ensures.ok none in
    if_err c.clear_standing.result (λ fault. leaves_then (settles c.args.birth) (clears_if c.args.clean_start c.args.birth) fault s s1 c.clear_standing.new.step (c.in_ok-settle_standing.ensures.quiet none)) (c.clear_standing.ensures.quiet_left gone)

pub returns-in_err-settle_standing-clause-left : goal.returns-in_err-settle_standing-clause-left
returns-in_err-settle_standing-clause-left g c =
    let fault = c.in_err-settle_standing.field-0.0 in
    let left : LeavesSome (settles_and_clears c.args.clean_start c.args.birth) fault c.args.step.now c.settle_standing.new.step =
    some_left_first (settles c.args.birth) (clears_if c.args.clean_start c.args.birth) fault c.args.step.now c.settle_standing.new.step c.in_err-settle_standing.ensures.left in
    let is : c.from_residual.result ≡ Err fault = search rules in
    subst (λ (r : Result ⊤ StepFault). IfErr r (λ x. LeavesSome (settles_and_clears c.args.clean_start c.args.birth) x c.args.step.now c.settle_standing.new.step)) (sym is) left

pub returns-in_err-settle_standing-clause-quiet_left : goal.returns-in_err-settle_standing-clause-quiet_left
returns-in_err-settle_standing-clause-quiet_left g c = λ none.
    let fault = c.in_err-settle_standing.field-0.0 in
    let left : Leaves (settles_and_clears c.args.clean_start c.args.birth) fault c.args.step.now c.settle_standing.new.step =
    leaves_first (settles c.args.birth) (clears_if c.args.clean_start c.args.birth) fault c.args.step.now c.settle_standing.new.step (c.in_err-settle_standing.ensures.quiet_left none) in
    let is : c.from_residual.result ≡ Err fault = search rules in
    subst (λ (r : Result ⊤ StepFault). IfErr r (λ x. Leaves (settles_and_clears c.args.clean_start c.args.birth) x c.args.step.now c.settle_standing.new.step)) (sym is) left

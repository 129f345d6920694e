use Rattle.std.proofs.Common.{◌≡◌, rules, sym, subst, inl, inr}
use Rattle.std.specs.Prelude.{⊤, Result, Err, IfErr}
use Rattle.mqtt_broker_step.specs.declared.fault.StepFault.{StepFault}
use Rattle.mqtt_broker_step.proofs.Doing.{on_ok, if_err}
use Rattle.mqtt_broker_queue.specs.publications.Choosing.{LeavesSome}
use Rattle.mqtt_broker_queue.proofs.publications_lemmas.Some.{some_then, some_left_first, some_left_then, then_some, then_some_left}
use Rattle.mqtt_rules.specs.step.Connect.{prepare}
use Rattle.mqtt_broker_acts.specs.connecting.Preparing.{settles_and_clears, takes_over}
use Rattle.mqtt_broker_acts.proofs.connecting_lemmas.Prepared.{prepared_left, prepared_some, some_serves, some_willed}
use Rattle.mqtt_broker_acts.proofs.connecting_lemmas.Steady.{steady_take_over}
use Rattle.mqtt_broker_acts.proofs.connecting.preparing.prepare.Goals as goal

pub settle_and_clear-requires-clause-serves : goal.settle_and_clear-requires-clause-serves
settle_and_clear-requires-clause-serves g c = λ x found.
    c.take_over.ensures.serves _
    (some_serves (g.R.Router.serves c.args.router.now) c.args.birth (takes_over c.args.birth) c.args.step.now c.take_over.new.step
    (steady_take_over c.args.birth) c.in_ok-take_over.ensures.ok (λ y is. c.requires.serves) x found)

pub settle_and_clear-requires-clause-lawful : goal.settle_and_clear-requires-clause-lawful
settle_and_clear-requires-clause-lawful g c =
    some_willed c.args.birth (takes_over c.args.birth) c.args.step.now c.take_over.new.step
    (steady_take_over c.args.birth) c.in_ok-take_over.ensures.ok c.requires.lawful

pub returns-clause-ok : goal.returns-clause-ok
returns-clause-ok g c =
    let s = c.args.step.now in
    let s1 = c.take_over.new.step in
    let s2 = c.settle_and_clear.new.step in
    elim c.in_ok-take_over.ensures.once [
      | inl gone ↦ on_ok c.settle_and_clear.result (λ rest. prepared_some c.args.birth c.requires.named.session c.args.connect.now s s2 c.requires.only c.requires.named.at (some_then (takes_over c.args.birth) (settles_and_clears c.args.connect.now.clean_start c.args.birth) s s1 s2 c.in_ok-take_over.ensures.ok rest)) (c.settle_and_clear.ensures.quiet gone)
      | inr does ↦ on_ok c.settle_and_clear.result (λ rest. prepared_some c.args.birth c.requires.named.session c.args.connect.now s s2 c.requires.only c.requires.named.at (then_some (takes_over c.args.birth) (settles_and_clears c.args.connect.now.clean_start c.args.birth) s s1 s2 does rest)) c.settle_and_clear.ensures.ok
    ]

pub returns-clause-left : goal.returns-clause-left
returns-clause-left g c =
    let s = c.args.step.now in
    let s1 = c.take_over.new.step in
    let s2 = c.settle_and_clear.new.step in
    elim c.in_ok-take_over.ensures.once [
      | inl gone ↦ if_err c.settle_and_clear.result (λ fault rest. prepared_left c.args.birth c.requires.named.session c.args.connect.now fault s s2 c.requires.only c.requires.named.at (some_left_then (takes_over c.args.birth) (settles_and_clears c.args.connect.now.clean_start c.args.birth) fault s s1 s2 c.in_ok-take_over.ensures.ok rest)) (c.settle_and_clear.ensures.quiet_left gone)
      | inr does ↦ if_err c.settle_and_clear.result (λ fault rest. prepared_left c.args.birth c.requires.named.session c.args.connect.now fault s s2 c.requires.only c.requires.named.at (then_some_left (takes_over c.args.birth) (settles_and_clears c.args.connect.now.clean_start c.args.birth) fault s s1 s2 does rest)) c.settle_and_clear.ensures.left
    ]

pub returns-in_err-take_over-clause-left : goal.returns-in_err-take_over-clause-left
returns-in_err-take_over-clause-left g c =
    let fault = c.in_err-take_over.field-0.0 in
    let left : LeavesSome (λ env. prepare env c.args.connect.now) fault c.args.step.now c.take_over.new.step =
    prepared_left c.args.birth c.requires.named.session c.args.connect.now fault c.args.step.now c.take_over.new.step c.requires.only c.requires.named.at
    (some_left_first (takes_over c.args.birth) (settles_and_clears c.args.connect.now.clean_start c.args.birth) fault c.args.step.now c.take_over.new.step c.in_err-take_over.ensures.left) in
    let is : c.from_residual.result ≡ Err fault = search rules in
    subst (λ (r : Result ⊤ StepFault). IfErr r (λ x. LeavesSome (λ env. prepare env c.args.connect.now) x c.args.step.now c.take_over.new.step)) (sym is) left

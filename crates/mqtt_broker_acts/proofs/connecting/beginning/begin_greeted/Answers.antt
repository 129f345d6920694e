use Rattle.std.proofs.Common.{◌≡◌, suc, ◌∷◌, [], rules, refl, sym, subst}
use Rattle.std.specs.Prelude.{⊤, Result, Err, IfErr}
use Rattle.mqtt_rules.specs.step.Connect.{expiry_of, will_of, greet}
use Rattle.mqtt_rules.specs.step.Deeds.{Act, always}
use Rattle.mqtt_broker_step.specs.declared.fault.StepFault.{StepFault}
use Rattle.mqtt_broker_step.specs.Doing.{begins}
use Rattle.mqtt_broker_step.specs.Stepping.{IsLeft}
use Rattle.mqtt_broker_step.proofs.Doing.{on_ok, if_err}
use Rattle.mqtt_broker_acts.specs.connecting.Connecting.{begins_greeted}
use Rattle.mqtt_broker_acts.proofs.connecting_lemmas.Parts.{both_done, first_left, second_left}
use Rattle.mqtt_broker_acts.proofs.connecting_lemmas.Wholes.{greeted_whole}
use Rattle.mqtt_broker_acts.proofs.connecting.beginning.begin_greeted.Goals as goal

pub returns-clause-ok : goal.returns-clause-ok
returns-clause-ok c = λ l number.
    let begun : Act = begins c.args.client.now (expiry_of c.args.connect.now) (will_of c.args.connect.now) in
    on_ok c.greet.result
    (both_done begun (always (greet l c.args.connect.now c.in_ok-birth.birth ∷ [])) (begins_greeted l c.args.connect.now c.args.client.now) c.args.step.now c.begin_session.new.step c.greet.new.step
    (greeted_whole l c.in_ok-birth.birth c.args.client.now c.args.connect.now c.args.step.now c.in_ok-birth.ensures.birth) c.in_ok-birth.ensures.ok)
    (c.greet.ensures.ok l number)

pub returns-clause-left : goal.returns-clause-left
returns-clause-left c = λ l number.
    let begun : Act = begins c.args.client.now (expiry_of c.args.connect.now) (will_of c.args.connect.now) in
    if_err c.greet.result
    (λ fault. second_left begun (always (greet l c.args.connect.now c.in_ok-birth.birth ∷ [])) (begins_greeted l c.args.connect.now c.args.client.now) fault c.args.step.now c.begin_session.new.step c.greet.new.step
    (greeted_whole l c.in_ok-birth.birth c.args.client.now c.args.connect.now c.args.step.now c.in_ok-birth.ensures.birth) c.in_ok-birth.ensures.ok)
    (c.greet.ensures.left l number)

pub returns-in_err-birth-clause-left : goal.returns-in_err-birth-clause-left
returns-in_err-birth-clause-left c = λ l number.
    let begun : Act = begins c.args.client.now (expiry_of c.args.connect.now) (will_of c.args.connect.now) in
    let whole : Act = begins_greeted l c.args.connect.now c.args.client.now in
    let left : IsLeft whole c.in_err-birth.field-0.0 c.args.step.now c.begin_session.new.step =
    first_left begun (λ b. greet l c.args.connect.now (suc c.args.step.now.broker.records.births) ∷ []) whole c.in_err-birth.field-0.0 c.args.step.now c.begin_session.new.step
    (greeted_whole l (suc c.args.step.now.broker.records.births) c.args.client.now c.args.connect.now c.args.step.now refl) c.in_err-birth.ensures.left in
    let is : c.from_residual.result ≡ Err c.in_err-birth.field-0.0 = search rules in
    subst (λ (r : Result ⊤ StepFault). IfErr r (λ fault. IsLeft whole fault c.args.step.now c.begin_session.new.step)) (sym is) left

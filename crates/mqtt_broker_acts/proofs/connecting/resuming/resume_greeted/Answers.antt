use Rattle.std.proofs.Common.{◌≡◌, ◌∷◌, [], rules, sym, subst}
use Rattle.std.specs.Prelude.{⊤, Result, Err, IfErr}
use Rattle.mqtt_rules.specs.step.Connect.{expiry_of, will_of, greet}
use Rattle.mqtt_rules.specs.step.Deeds.{Act, Resume, always}
use Rattle.mqtt_broker_step.specs.declared.fault.StepFault.{StepFault}
use Rattle.mqtt_broker_step.specs.Stepping.{IsLeft, to_session}
use Rattle.mqtt_broker_step.proofs.Doing.{on_ok, if_err}
use Rattle.mqtt_broker_acts.specs.connecting.Connecting.{resumed_greeted}
use Rattle.mqtt_broker_acts.proofs.connecting_lemmas.Parts.{both_done, first_left, second_left}
use Rattle.mqtt_broker_acts.proofs.connecting_lemmas.Wholes.{regreeted_whole}
use Rattle.mqtt_broker_acts.proofs.connecting.resuming.resume_greeted.Goals as goal

pub returns-clause-ok : goal.returns-clause-ok
returns-clause-ok c = λ l x number found.
    let first : Act = to_session c.args.birth (Resume (expiry_of c.args.connect.now) (will_of c.args.connect.now)) in
    on_ok c.greet.result
    (both_done first (always (greet l c.args.connect.now c.args.birth ∷ [])) (always (resumed_greeted l c.args.connect.now x)) c.args.step.now c.resume_session.new.step c.greet.new.step
    (regreeted_whole l c.args.birth c.args.connect.now x c.args.step.now found) c.in_ok-resume_session.ensures.ok)
    (c.greet.ensures.ok l number)

pub returns-clause-left : goal.returns-clause-left
returns-clause-left c = λ l x number found.
    let first : Act = to_session c.args.birth (Resume (expiry_of c.args.connect.now) (will_of c.args.connect.now)) in
    if_err c.greet.result
    (λ fault. second_left first (always (greet l c.args.connect.now c.args.birth ∷ [])) (always (resumed_greeted l c.args.connect.now x)) fault c.args.step.now c.resume_session.new.step c.greet.new.step
    (regreeted_whole l c.args.birth c.args.connect.now x c.args.step.now found) c.in_ok-resume_session.ensures.ok)
    (c.greet.ensures.left l number)

pub returns-in_err-resume_session-clause-left : goal.returns-in_err-resume_session-clause-left
returns-in_err-resume_session-clause-left c = λ l x number found.
    let first : Act = to_session c.args.birth (Resume (expiry_of c.args.connect.now) (will_of c.args.connect.now)) in
    let whole : Act = always (resumed_greeted l c.args.connect.now x) in
    let left : IsLeft whole c.in_err-resume_session.field-0.0 c.args.step.now c.resume_session.new.step =
    first_left first (always (greet l c.args.connect.now c.args.birth ∷ [])) whole c.in_err-resume_session.field-0.0 c.args.step.now c.resume_session.new.step
    (regreeted_whole l c.args.birth c.args.connect.now x c.args.step.now found) c.in_err-resume_session.ensures.left in
    let is : c.from_residual.result ≡ Err c.in_err-resume_session.field-0.0 = search rules in
    subst (λ (r : Result ⊤ StepFault). IfErr r (λ fault. IsLeft whole fault c.args.step.now c.resume_session.new.step)) (sym is) left

use Rattle.std.proofs.Common.{◌≡◌, ◌∷◌, [], rules, sym, subst}
use Rattle.std.specs.Prelude.{⊤, Result, Err, IfErr}
use Rattle.mqtt_rules.specs.step.Connect.{refused}
use Rattle.mqtt_rules.specs.step.Deeds.{Act, Gone, always}
use Rattle.mqtt_broker_step.specs.declared.fault.StepFault.{StepFault}
use Rattle.mqtt_broker_step.specs.Stepping.{IsLeft}
use Rattle.mqtt_broker_step.proofs.Doing.{on_ok, if_err}
use Rattle.mqtt_broker_acts.specs.connecting.Connecting.{refusal_told}
use Rattle.mqtt_broker_acts.proofs.connecting_lemmas.Parts.{both_done, first_left, second_left}
use Rattle.mqtt_broker_acts.proofs.connecting_lemmas.Wholes.{refused_whole}
use Rattle.mqtt_broker_acts.proofs.connecting.refusing.refuse.Goals as goal

pub returns-clause-ok : goal.returns-clause-ok
returns-clause-ok c = λ l number.
    let told : Act = always (refusal_told c.args.line c.args.connect.now c.args.code.0) in
    on_ok c.gone.result
    (both_done told (always (Gone c.args.line ∷ [])) (always (refused l c.args.connect.now c.args.code.0)) c.args.step.now c.tell_refusal.new.step c.gone.new.self
    (refused_whole l c.args.line c.args.code.0 c.args.connect.now c.args.step.now number) c.in_ok-tell_refusal.ensures.ok)
    c.gone.ensures.ok

pub returns-clause-left : goal.returns-clause-left
returns-clause-left c = λ l number.
    let told : Act = always (refusal_told c.args.line c.args.connect.now c.args.code.0) in
    if_err c.gone.result
    (λ fault. second_left told (always (Gone c.args.line ∷ [])) (always (refused l c.args.connect.now c.args.code.0)) fault c.args.step.now c.tell_refusal.new.step c.gone.new.self
    (refused_whole l c.args.line c.args.code.0 c.args.connect.now c.args.step.now number) c.in_ok-tell_refusal.ensures.ok)
    c.gone.ensures.left

pub returns-in_err-tell_refusal-clause-left : goal.returns-in_err-tell_refusal-clause-left
returns-in_err-tell_refusal-clause-left c = λ l number.
    let whole : Act = always (refused l c.args.connect.now c.args.code.0) in
    let left : IsLeft whole c.in_err-tell_refusal.field-0.0 c.args.step.now c.tell_refusal.new.step =
    first_left (always (refusal_told c.args.line c.args.connect.now c.args.code.0)) (always (Gone c.args.line ∷ [])) whole c.in_err-tell_refusal.field-0.0 c.args.step.now c.tell_refusal.new.step
    (refused_whole l c.args.line c.args.code.0 c.args.connect.now c.args.step.now number) c.in_err-tell_refusal.ensures.left in
    let is : c.from_residual.result ≡ Err c.in_err-tell_refusal.field-0.0 = search rules in
    subst (λ (r : Result ⊤ StepFault). IfErr r (λ fault. IsLeft whole fault c.args.step.now c.tell_refusal.new.step)) (sym is) left

use Rattle.std.proofs.Common.{◌≡◌, rules, sym, subst}
use Rattle.std.specs.Prelude.{⊤, Result, Err, IfErr}
use Rattle.mqtt_rules.specs.step.Deeds.{Act, always}
use Rattle.mqtt_broker_step.specs.declared.fault.StepFault.{StepFault}
use Rattle.mqtt_broker_step.specs.Stepping.{IsLeft}
use Rattle.mqtt_broker_step.proofs.Doing.{on_ok, if_err}
use Rattle.mqtt_broker_acts.specs.connecting.Connecting.{resumed_greeted, resumed_told, resumption_told}
use Rattle.mqtt_broker_acts.proofs.connecting_lemmas.Parts.{both_done, first_left, second_left}
use Rattle.mqtt_broker_acts.proofs.connecting_lemmas.Wholes.{retold_whole}
use Rattle.mqtt_broker_acts.proofs.connecting.resuming.resume_told.Goals as goal

pub returns-clause-ok : goal.returns-clause-ok
returns-clause-ok c = λ l x number found.
    on_ok c.tell_resumed.result
    (both_done (always (resumed_greeted l c.args.connect.now x)) (always (resumption_told c.args.line)) (always (resumed_told l c.args.connect.now x)) c.args.step.now c.resume_greeted.new.step c.tell_resumed.new.step
    (retold_whole l c.args.line c.args.connect.now x c.args.step.now number) (c.in_ok-resume_greeted.ensures.ok l x number found))
    c.tell_resumed.ensures.ok

pub returns-clause-left : goal.returns-clause-left
returns-clause-left c = λ l x number found.
    if_err c.tell_resumed.result
    (λ fault. second_left (always (resumed_greeted l c.args.connect.now x)) (always (resumption_told c.args.line)) (always (resumed_told l c.args.connect.now x)) fault c.args.step.now c.resume_greeted.new.step c.tell_resumed.new.step
    (retold_whole l c.args.line c.args.connect.now x c.args.step.now number) (c.in_ok-resume_greeted.ensures.ok l x number found))
    c.tell_resumed.ensures.left

pub returns-in_err-resume_greeted-clause-left : goal.returns-in_err-resume_greeted-clause-left
returns-in_err-resume_greeted-clause-left c = λ l x number found.
    let whole : Act = always (resumed_told l c.args.connect.now x) in
    let left : IsLeft whole c.in_err-resume_greeted.field-0.0 c.args.step.now c.resume_greeted.new.step =
    first_left (always (resumed_greeted l c.args.connect.now x)) (always (resumption_told c.args.line)) whole c.in_err-resume_greeted.field-0.0 c.args.step.now c.resume_greeted.new.step
    (retold_whole l c.args.line c.args.connect.now x c.args.step.now number) (c.in_err-resume_greeted.ensures.left l x number found) in
    let is : c.from_residual.result ≡ Err c.in_err-resume_greeted.field-0.0 = search rules in
    subst (λ (r : Result ⊤ StepFault). IfErr r (λ fault. IsLeft whole fault c.args.step.now c.resume_greeted.new.step)) (sym is) left

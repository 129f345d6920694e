use Rattle.std.proofs.Common.{◌≡◌, rules, sym, subst}
use Rattle.std.specs.Prelude.{⊤, Result, Err, IfErr}
use Rattle.mqtt_rules.specs.step.Deeds.{Act, always}
use Rattle.mqtt_broker_step.specs.declared.fault.StepFault.{StepFault}
use Rattle.mqtt_broker_step.specs.Stepping.{IsLeft}
use Rattle.mqtt_broker_step.proofs.Doing.{on_ok, if_err}
use Rattle.mqtt_broker_acts.specs.connecting.Connecting.{begins_greeted, begun_told}
use Rattle.mqtt_broker_acts.proofs.connecting_lemmas.Parts.{both_done, first_left, second_left}
use Rattle.mqtt_broker_acts.proofs.connecting_lemmas.Wholes.{begins_as, begun_whole}
use Rattle.mqtt_broker_acts.proofs.connecting.beginning.begin.Goals as goal

pub returns-clause-ok : goal.returns-clause-ok
returns-clause-ok c = λ l number.
    let told : Act = always (begun_told c.args.line c.args.is_assigned c.args.client.now) in
    on_ok c.tell_begun.result
    (both_done (begins_greeted l c.args.connect.now c.args.client.now) told (begins_as l c.args.connect.now c.args.is_assigned c.args.client.now)
    c.args.step.now c.begin_greeted.new.step c.tell_begun.new.step
    (begun_whole l c.args.line c.args.is_assigned c.args.client.now c.args.connect.now c.args.step.now number) (c.in_ok-begin_greeted.ensures.ok l number))
    c.tell_begun.ensures.ok

pub returns-clause-left : goal.returns-clause-left
returns-clause-left c = λ l number.
    let told : Act = always (begun_told c.args.line c.args.is_assigned c.args.client.now) in
    if_err c.tell_begun.result
    (λ fault. second_left (begins_greeted l c.args.connect.now c.args.client.now) told (begins_as l c.args.connect.now c.args.is_assigned c.args.client.now) fault
    c.args.step.now c.begin_greeted.new.step c.tell_begun.new.step
    (begun_whole l c.args.line c.args.is_assigned c.args.client.now c.args.connect.now c.args.step.now number) (c.in_ok-begin_greeted.ensures.ok l number))
    c.tell_begun.ensures.left

pub returns-in_err-begin_greeted-clause-left : goal.returns-in_err-begin_greeted-clause-left
returns-in_err-begin_greeted-clause-left c = λ l number.
    let told : Act = always (begun_told c.args.line c.args.is_assigned c.args.client.now) in
    let whole : Act = begins_as l c.args.connect.now c.args.is_assigned c.args.client.now in
    let left : IsLeft whole c.in_err-begin_greeted.field-0.0 c.args.step.now c.begin_greeted.new.step =
    first_left (begins_greeted l c.args.connect.now c.args.client.now) told whole c.in_err-begin_greeted.field-0.0 c.args.step.now c.begin_greeted.new.step
    (begun_whole l c.args.line c.args.is_assigned c.args.client.now c.args.connect.now c.args.step.now number) (c.in_err-begin_greeted.ensures.left l number) in
    let is : c.from_residual.result ≡ Err c.in_err-begin_greeted.field-0.0 = search rules in
    subst (λ (r : Result ⊤ StepFault). IfErr r (λ fault. IsLeft whole fault c.args.step.now c.begin_greeted.new.step)) (sym is) left

use Rattle.std.proofs.Common.{◌≡◌, ℕ, ◌++◌, suc, true, rules, refl, sym, subst}
use Rattle.std.specs.Prelude.{⊤, Result, Err, IfErr, decimal}
use Rattle.mqtt_rules.specs.step.Deeds.{Act}
use Rattle.mqtt_broker_step.specs.declared.fault.StepFault.{StepFault}
use Rattle.mqtt_broker_step.specs.Doing.{names}
use Rattle.mqtt_broker_step.specs.Stepping.{IsLeft}
use Rattle.mqtt_broker_step.proofs.Doing.{on_ok, if_err}
use Rattle.mqtt_broker_acts.proofs.connecting_lemmas.Parts.{both_done, first_left, second_left}
use Rattle.mqtt_broker_acts.proofs.connecting_lemmas.Wholes.{begins_as, begins_named, named_whole, births_stay}
use Rattle.mqtt_broker_acts.proofs.connecting.beginning.begin_assigned.Goals as goal
use Rattle.mqtt_records.specs.state.Session.{auto}

pub begin_numbered-requires : goal.begin_numbered-requires
begin_numbered-requires c = births_stay c.args.step.now c.name.new.self c.in_ok-number.ensures.ok c.requires

pub returns-clause-ok : goal.returns-clause-ok
returns-clause-ok c = λ l number.
    on_ok c.begin_numbered.result
    (both_done names (begins_as l c.args.connect.now true (auto ++ decimal c.in_ok-number.number)) (begins_named true l c.args.connect.now)
    c.args.step.now c.name.new.self c.begin_numbered.new.step
    (named_whole l c.in_ok-number.number c.args.connect.now c.args.step.now c.in_ok-number.ensures.number) c.in_ok-number.ensures.ok)
    (c.begin_numbered.ensures.ok l number)

pub returns-clause-left : goal.returns-clause-left
returns-clause-left c = λ l number.
    if_err c.begin_numbered.result
    (λ fault. second_left names (begins_as l c.args.connect.now true (auto ++ decimal c.in_ok-number.number)) (begins_named true l c.args.connect.now) fault
    c.args.step.now c.name.new.self c.begin_numbered.new.step
    (named_whole l c.in_ok-number.number c.args.connect.now c.args.step.now c.in_ok-number.ensures.number) c.in_ok-number.ensures.ok)
    (c.begin_numbered.ensures.left l number)

pub returns-in_err-number-clause-left : goal.returns-in_err-number-clause-left
returns-in_err-number-clause-left c = λ l number.
    let whole : Act = begins_named true l c.args.connect.now in
    let next : ℕ = suc c.args.step.now.broker.records.autos in
    let left : IsLeft whole c.in_err-number.field-0.0 c.args.step.now c.name.new.self =
    first_left names (begins_as l c.args.connect.now true (auto ++ decimal next)) whole c.in_err-number.field-0.0 c.args.step.now c.name.new.self
    (named_whole l next c.args.connect.now c.args.step.now refl) c.in_err-number.ensures.left in
    let is : c.from_residual.result ≡ Err c.in_err-number.field-0.0 = search rules in
    subst (λ (r : Result ⊤ StepFault). IfErr r (λ fault. IsLeft whole fault c.args.step.now c.name.new.self)) (sym is) left

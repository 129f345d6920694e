use Rattle.std.proofs.Common.{◌≡◌, [], length, false, rules, arith, ap, subst, sym, ◌∙◌}
use Rattle.std.specs.Prelude.{⊤, Result, Err, IfErr}
use Rattle.mqtt_rules.specs.step.Subscribe.{unsubscribe_by}
use Rattle.mqtt_broker_step.specs.declared.fault.StepFault.{StepFault}
use Rattle.mqtt_broker_step.specs.Stepping.{IsLeft}
use Rattle.mqtt_broker_step.proofs.Doing.{on_ok, if_err}
use Rattle.mqtt_broker_acts.proofs.subscribing_lemmas.Unsubscribed.{asked_of, length_codes, dropped_ok, drops_left, answer_left}
use Rattle.mqtt_broker_acts.proofs.subscribing.unsubscribing.drop_all.Goals as goal

pub offer_unsuback-requires : goal.offer_unsuback-requires
offer_unsuback-requires c =
    let few = c.requires.few in
    let many : length c.deref.result.now ≡ length c.args.packet.now.filters =
    ap length (c.deref.ensures.value ∙ c.in_ok-codes.ensures.codes) ∙ length_codes c.in-Some.session.now [] c.args.packet.now.filters in
    omega (arith, few, many)

pub returns-clause-ok : goal.returns-clause-ok
returns-clause-ok c = λ s found.
    on_ok c.offer_unsuback.result
    (dropped_ok c.args.line c.args.birth s c.args.packet.now c.largest_on-largest.result c.deref.result.now c.args.step.now c.drop_held.new.step c.offer_unsuback.new.step
    (asked_of c.args.line c.args.birth c.in-Some.session.now s c.args.packet.now c.largest_on-largest.result c.deref.result.now c.args.step.now (sym c.in-Some.ensures) found c.largest_on-largest.ensures (c.deref.ensures.value ∙ c.in_ok-codes.ensures.codes))
    c.in_ok-drop_held.ensures.ok)
    c.offer_unsuback.ensures.ok

pub returns-clause-left : goal.returns-clause-left
returns-clause-left c = λ s found.
    if_err c.offer_unsuback.result
    (λ fault. answer_left c.args.line c.args.birth s c.args.packet.now c.largest_on-largest.result c.deref.result.now fault c.args.step.now c.drop_held.new.step c.offer_unsuback.new.step
    (asked_of c.args.line c.args.birth c.in-Some.session.now s c.args.packet.now c.largest_on-largest.result c.deref.result.now c.args.step.now (sym c.in-Some.ensures) found c.largest_on-largest.ensures (c.deref.ensures.value ∙ c.in_ok-codes.ensures.codes))
    c.in_ok-drop_held.ensures.ok)
    c.offer_unsuback.ensures.left

pub returns-in_err-drop_held-clause-left : goal.returns-in_err-drop_held-clause-left
returns-in_err-drop_held-clause-left c = λ s found.
    let left : IsLeft (unsubscribe_by false c.args.line s c.args.packet.now) c.in_err-drop_held.field-0.0 c.args.step.now c.drop_held.new.step =
    drops_left c.args.line c.args.birth s c.args.packet.now c.largest_on-largest.result c.in_ok-codes.codes.items c.in_err-drop_held.field-0.0 c.args.step.now c.drop_held.new.step
    (asked_of c.args.line c.args.birth c.in-Some.session.now s c.args.packet.now c.largest_on-largest.result c.in_ok-codes.codes.items c.args.step.now (sym c.in-Some.ensures) found c.largest_on-largest.ensures c.in_ok-codes.ensures.codes)
    c.in_err-drop_held.ensures.left in
    let is : c.from_residual-in_err-drop_held.result ≡ Err c.in_err-drop_held.field-0.0 = search rules in
    subst (λ (r : Result ⊤ StepFault). IfErr r (λ fault. IsLeft (unsubscribe_by false c.args.line s c.args.packet.now) fault c.args.step.now c.drop_held.new.step)) (sym is) left

use Rattle.std.proofs.Common.{◌≡◌, ℕ, List, rules, refl, ap, sym, subst, ◌∙◌}
use Rattle.std.specs.Prelude.{⊤, true, false, Result, Err, IfErr}
use Rattle.std.specs.List.{AllByRecursion}
use Rattle.mqtt_records.specs.messages.Queue.{IsSpelled}
use Rattle.mqtt_records.specs.declared.messages.message.MessageCopy.{MessageCopy}
use Rattle.mqtt_rules.specs.step.Subscribe.{next_number}
use Rattle.mqtt_broker_step.specs.declared.fault.StepFault.{StepFault}
use Rattle.mqtt_broker_step.specs.declared.fault.StepFault.TheVariants.{Memory}
use Rattle.mqtt_broker_step.specs.Stepping.{Leaves}
use Rattle.mqtt_broker_step.proofs.Doing.{on_ok, if_err}
use Rattle.mqtt_broker_acts.specs.subscribing.Enrolling.{enrolls}
use Rattle.mqtt_broker_acts.specs.subscribing.Granting.{asked_for, chosen, grants}
use Rattle.mqtt_broker_acts.proofs.subscribing_lemmas.Granted.{all_spelled, chosen_spelled, room_stays, granted_ok, enroll_left, deliver_left, memory_after}
use Rattle.mqtt_broker_acts.proofs.subscribing.granting.grant.Goals as goal

pub returns-in_err-number-clause-left : goal.returns-in_err-number-clause-left
returns-in_err-number-clause-left c = λ s found.
    let w = asked_for c.args.asked.now c.args.options c.args.identifier in
    let text : c.args.asked.now ≡ c.in_ok-text.text = search rules in
    let left : Leaves (grants s w c.args.kept.now) c.in_err-number.field-0.0 c.args.step.now c.enroll.new.step =
    enroll_left c.args.birth s w c.args.kept.now c.in_err-number.field-0.0 c.args.step.now c.enroll.new.step found
    (c.in_err-number.ensures.left s w found text refl refl) in
    let is : c.from_residual-in_err-number.result ≡ Err c.in_err-number.field-0.0 = search rules in
    subst (λ (r : Result ⊤ StepFault). IfErr r (λ fault. Leaves (grants s w c.args.kept.now) fault c.args.step.now c.enroll.new.step)) (sym is) left

pub returns-in_err-push_all-clause-left : goal.returns-in_err-push_all-clause-left
returns-in_err-push_all-clause-left c = λ s found.
    let w = asked_for c.args.asked.now c.args.options c.args.identifier in
    let text : c.args.asked.now ≡ c.in_ok-text.text = search rules in
    let memory : IfErr c.from_residual-in_err-push_all.result (λ fault. fault ≡ Memory) = search rules in
    if_err c.from_residual-in_err-push_all.result
    (λ fault is. memory_after (enrolls s w) (grants s w c.args.kept.now) fault c.args.step.now c.enroll.new.step
    (c.in_ok-number.ensures.ok s w found text refl refl) is)
    memory

pub returns-in_err-copies-clause-left : goal.returns-in_err-copies-clause-left
returns-in_err-copies-clause-left c = λ s found.
    let w = asked_for c.args.asked.now c.args.options c.args.identifier in
    let text : c.args.asked.now ≡ c.in_ok-text.text = search rules in
    let memory : IfErr c.from_residual-in_err-copies.result (λ fault. fault ≡ Memory) = search rules in
    if_err c.from_residual-in_err-copies.result
    (λ fault is. memory_after (enrolls s w) (grants s w c.args.kept.now) fault c.args.step.now c.enroll.new.step
    (c.in_ok-number.ensures.ok s w found text refl refl) is)
    memory

pub deliver_all-requires-clause-spelled : goal.deliver_all-requires-clause-spelled
deliver_all-requires-clause-spelled c =
    let w = asked_for c.args.asked.now c.args.options c.args.identifier in
    subst (λ (cs : List MessageCopy). AllByRecursion IsSpelled cs) (sym (c.in_ok-copies.ensures w refl refl))
    (chosen_spelled true c.args.birth c.in_ok-number.number w c.args.kept.now c.requires.lawful c.requires.identifier)

pub deliver_all-requires-clause-room : goal.deliver_all-requires-clause-room
deliver_all-requires-clause-room c =
    let w = asked_for c.args.asked.now c.args.options c.args.identifier in
    let text : c.args.asked.now ≡ c.in_ok-text.text = search rules in
    let made : c.in_ok-copies.copies.items ≡ chosen true c.args.birth (next_number c.args.step.now.broker.records) w c.args.kept.now =
    c.in_ok-copies.ensures w refl refl ∙ ap (λ (n : ℕ). chosen true c.args.birth n w c.args.kept.now) c.in_ok-number.ensures.number in
    room_stays c.args.birth (next_number c.args.step.now.broker.records) c.requires.room.session w c.args.kept.now c.in_ok-copies.copies.items c.args.step.now c.enroll.new.step
    c.requires.room.found (c.in_ok-number.ensures.ok c.requires.room.session w c.requires.room.found text refl refl) made c.requires.room.fits

pub returns-clause-ok : goal.returns-clause-ok
returns-clause-ok c = λ s found.
    let w = asked_for c.args.asked.now c.args.options c.args.identifier in
    let text : c.args.asked.now ≡ c.in_ok-text.text = search rules in
    let made : c.in_ok-copies.copies.items ≡ chosen true c.args.birth (next_number c.args.step.now.broker.records) w c.args.kept.now =
    c.in_ok-copies.ensures w refl refl ∙ ap (λ (n : ℕ). chosen true c.args.birth n w c.args.kept.now) c.in_ok-number.ensures.number in
    on_ok c.deliver_all.result
    (granted_ok c.args.birth s w c.args.kept.now c.in_ok-copies.copies.items c.args.step.now c.enroll.new.step c.deliver_all.new.step found made
    (c.in_ok-number.ensures.ok s w found text refl refl))
    c.deliver_all.ensures.ok

pub returns-clause-left : goal.returns-clause-left
returns-clause-left c = λ s found.
    let w = asked_for c.args.asked.now c.args.options c.args.identifier in
    let text : c.args.asked.now ≡ c.in_ok-text.text = search rules in
    let made : c.in_ok-copies.copies.items ≡ chosen true c.args.birth (next_number c.args.step.now.broker.records) w c.args.kept.now =
    c.in_ok-copies.ensures w refl refl ∙ ap (λ (n : ℕ). chosen true c.args.birth n w c.args.kept.now) c.in_ok-number.ensures.number in
    if_err c.deliver_all.result
    (λ fault. deliver_left c.args.birth s w c.args.kept.now c.in_ok-copies.copies.items fault c.args.step.now c.enroll.new.step c.deliver_all.new.step found made
    (c.in_ok-number.ensures.ok s w found text refl refl))
    c.deliver_all.ensures.left

pub returns-clause-spelled : goal.returns-clause-spelled
returns-clause-spelled c = λ before.
    let w = asked_for c.args.asked.now c.args.options c.args.identifier in
    on_ok c.deliver_all.result
    (λ done. subst (λ (cs : List MessageCopy). AllByRecursion IsSpelled cs) (sym (c.in_ok-push_all.ensures w refl refl))
    (all_spelled c.args.late.now.items (chosen false c.args.birth c.in_ok-number.number w c.args.kept.now) before
    (chosen_spelled false c.args.birth c.in_ok-number.number w c.args.kept.now c.requires.lawful c.requires.identifier)))
    c.deliver_all.ensures.ok

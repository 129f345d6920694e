use Rattle.std.proofs.Common.{◌≡◌, [], ◌∷◌, ◌++◌, rules, refl, sym, ◌∙◌}
use Rattle.std.specs.Prelude.{true, false, map}
use Rattle.mqtt_rules.specs.step.Subscribe.{next_number, retained_copy_to}
use Rattle.mqtt_broker_step.specs.Stepping.{env_in}
use Rattle.mqtt_broker_step.specs.Undoing.{moment_of}
use Rattle.mqtt_broker_step.proofs.Doing.{on_ok, if_err}
use Rattle.mqtt_broker_acts.specs.subscribing.Granting.{asked_for}
use Rattle.mqtt_broker_acts.proofs.subscribing_lemmas.Answered.{Looked, looked, messages_lawful, look_room, look_ok, look_left, look_late, look_code, refused_does, refused_late}
use Rattle.mqtt_broker_acts.proofs.subscribing.granting.answer_valid.Goals as goal

pub grant-requires-clause-lawful : goal.grant-requires-clause-lawful
grant-requires-clause-lawful c =
    let w = asked_for c.args.asked.now c.args.options c.args.identifier in
    messages_lawful (moment_of c.args.step.now.broker) c.in-Some.session.now w c.args.step.now.broker.records.retained c.deref-then-has_room.result.now
    (c.deref-then-has_room.ensures.value ∙ c.in_ok-kept.ensures) c.requires.lawful

pub grant-requires-clause-room : goal.grant-requires-clause-room
grant-requires-clause-room c =
    let w = asked_for c.args.asked.now c.args.options c.args.identifier in
    let is : true ≡ c.has_room-has_room.result = search rules in
    let l : Looked c.args.birth c.in-Some.session.now w c.deref-then-has_room.result.now true c.args.step.now =
    looked c.args.birth c.room-room.result c.in-Some.session.now w c.deref.result.now c.deref-then-has_room.result.now c.has_room-has_room.result true c.args.step.now
    (sym c.in-Some.ensures) c.requires.valid c.room-room.ensures (c.deref.ensures.value ∙ c.in_ok-kept.ensures)
    (c.has_room-has_room.ensures c.args.birth (next_number c.args.step.now.broker.records)) (c.deref-then-has_room.ensures.value ∙ sym c.deref.ensures.value) is in
    look_room c.args.birth c.in-Some.session.now w c.deref-then-has_room.result.now c.args.step.now l

pub returns-then-has_room-clause-ok : goal.returns-then-has_room-clause-ok
returns-then-has_room-clause-ok c =
    let w = asked_for c.args.asked.now c.args.options c.args.identifier in
    let is : true ≡ c.has_room-has_room.result = search rules in
    let l : Looked c.args.birth c.in-Some.session.now w c.deref-then-has_room.result.now true c.args.step.now =
    looked c.args.birth c.room-room.result c.in-Some.session.now w c.deref.result.now c.deref-then-has_room.result.now c.has_room-has_room.result true c.args.step.now
    (sym c.in-Some.ensures) c.requires.valid c.room-room.ensures (c.deref.ensures.value ∙ c.in_ok-kept.ensures)
    (c.has_room-has_room.ensures c.args.birth (next_number c.args.step.now.broker.records)) (c.deref-then-has_room.ensures.value ∙ sym c.deref.ensures.value) is in
    on_ok c.grant.result
    (look_ok c.args.birth c.in-Some.session.now w c.deref-then-has_room.result.now c.args.step.now c.grant.new.step l)
    (c.grant.ensures.ok c.in-Some.session.now (sym c.in-Some.ensures))

pub returns-then-has_room-clause-code : goal.returns-then-has_room-clause-code
returns-then-has_room-clause-code c = λ choice.
    let w = asked_for c.args.asked.now c.args.options c.args.identifier in
    let l : Looked c.args.birth c.in-Some.session.now w c.deref.result.now c.has_room-has_room.result c.args.step.now =
    looked c.args.birth c.room-room.result c.in-Some.session.now w c.deref.result.now c.deref.result.now c.has_room-has_room.result c.has_room-has_room.result c.args.step.now
    (sym c.in-Some.ensures) c.requires.valid c.room-room.ensures (c.deref.ensures.value ∙ c.in_ok-kept.ensures)
    (c.has_room-has_room.ensures c.args.birth (next_number c.args.step.now.broker.records)) refl refl in
    let pushed : c.push-2.new.self.items ≡ c.args.codes.now.items ++ c.filter_code.result.0 ∷ [] = search rules in
    on_ok c.grant.result (λ done. look_code c.args.birth c.in-Some.session.now w c.deref.result.now c.has_room-has_room.result c.args.codes.now.items c.push-2.new.self.items c.filter_code.result.0 c.args.step.now choice l pushed
    (c.filter_code.ensures (env_in choice c.args.step.now) (next_number c.args.step.now.broker.records) c.in-Some.session.now w
    (map (retained_copy_to c.in-Some.session.now.birth (next_number c.args.step.now.broker.records) w) c.deref.result.now) c.args.step.now.broker refl))
    c.grant.ensures.late

pub returns-then-has_room-clause-late : goal.returns-then-has_room-clause-late
returns-then-has_room-clause-late c = λ choice.
    let w = asked_for c.args.asked.now c.args.options c.args.identifier in
    let is : true ≡ c.has_room-has_room.result = search rules in
    let l : Looked c.args.birth c.in-Some.session.now w c.deref-then-has_room.result.now true c.args.step.now =
    looked c.args.birth c.room-room.result c.in-Some.session.now w c.deref.result.now c.deref-then-has_room.result.now c.has_room-has_room.result true c.args.step.now
    (sym c.in-Some.ensures) c.requires.valid c.room-room.ensures (c.deref.ensures.value ∙ c.in_ok-kept.ensures)
    (c.has_room-has_room.ensures c.args.birth (next_number c.args.step.now.broker.records)) (c.deref-then-has_room.ensures.value ∙ sym c.deref.ensures.value) is in
    on_ok c.grant.result
    (look_late c.args.birth c.in-Some.session.now w c.deref-then-has_room.result.now c.args.late.now.items c.grant.new.late.items c.args.step.now choice l)
    c.grant.ensures.late

pub returns-then-has_room-clause-left : goal.returns-then-has_room-clause-left
returns-then-has_room-clause-left c =
    let w = asked_for c.args.asked.now c.args.options c.args.identifier in
    let is : true ≡ c.has_room-has_room.result = search rules in
    let l : Looked c.args.birth c.in-Some.session.now w c.deref-then-has_room.result.now true c.args.step.now =
    looked c.args.birth c.room-room.result c.in-Some.session.now w c.deref.result.now c.deref-then-has_room.result.now c.has_room-has_room.result true c.args.step.now
    (sym c.in-Some.ensures) c.requires.valid c.room-room.ensures (c.deref.ensures.value ∙ c.in_ok-kept.ensures)
    (c.has_room-has_room.ensures c.args.birth (next_number c.args.step.now.broker.records)) (c.deref-then-has_room.ensures.value ∙ sym c.deref.ensures.value) is in
    if_err c.grant.result
    (λ fault. look_left c.args.birth c.in-Some.session.now w c.deref-then-has_room.result.now fault c.args.step.now c.grant.new.step l)
    (c.grant.ensures.left c.in-Some.session.now (sym c.in-Some.ensures))

pub returns-clause-ok : goal.returns-clause-ok
returns-clause-ok c =
    let w = asked_for c.args.asked.now c.args.options c.args.identifier in
    let is : false ≡ c.has_room-has_room.result = search rules in
    let l : Looked c.args.birth c.in-Some.session.now w c.deref.result.now false c.args.step.now =
    looked c.args.birth c.room-room.result c.in-Some.session.now w c.deref.result.now c.deref.result.now c.has_room-has_room.result false c.args.step.now
    (sym c.in-Some.ensures) c.requires.valid c.room-room.ensures (c.deref.ensures.value ∙ c.in_ok-kept.ensures)
    (c.has_room-has_room.ensures c.args.birth (next_number c.args.step.now.broker.records)) refl is in
    refused_does c.args.birth c.in-Some.session.now w c.deref.result.now c.args.step.now l

pub returns-clause-code : goal.returns-clause-code
returns-clause-code c = λ choice.
    let w = asked_for c.args.asked.now c.args.options c.args.identifier in
    let l : Looked c.args.birth c.in-Some.session.now w c.deref.result.now c.has_room-has_room.result c.args.step.now =
    looked c.args.birth c.room-room.result c.in-Some.session.now w c.deref.result.now c.deref.result.now c.has_room-has_room.result c.has_room-has_room.result c.args.step.now
    (sym c.in-Some.ensures) c.requires.valid c.room-room.ensures (c.deref.ensures.value ∙ c.in_ok-kept.ensures)
    (c.has_room-has_room.ensures c.args.birth (next_number c.args.step.now.broker.records)) refl refl in
    let pushed : c.push-2.new.self.items ≡ c.args.codes.now.items ++ c.filter_code.result.0 ∷ [] = search rules in
    look_code c.args.birth c.in-Some.session.now w c.deref.result.now c.has_room-has_room.result c.args.codes.now.items c.push-2.new.self.items c.filter_code.result.0 c.args.step.now choice l pushed
    (c.filter_code.ensures (env_in choice c.args.step.now) (next_number c.args.step.now.broker.records) c.in-Some.session.now w
    (map (retained_copy_to c.in-Some.session.now.birth (next_number c.args.step.now.broker.records) w) c.deref.result.now) c.args.step.now.broker refl)

pub returns-clause-late : goal.returns-clause-late
returns-clause-late c = λ choice.
    let w = asked_for c.args.asked.now c.args.options c.args.identifier in
    let is : false ≡ c.has_room-has_room.result = search rules in
    let l : Looked c.args.birth c.in-Some.session.now w c.deref.result.now false c.args.step.now =
    looked c.args.birth c.room-room.result c.in-Some.session.now w c.deref.result.now c.deref.result.now c.has_room-has_room.result false c.args.step.now
    (sym c.in-Some.ensures) c.requires.valid c.room-room.ensures (c.deref.ensures.value ∙ c.in_ok-kept.ensures)
    (c.has_room-has_room.ensures c.args.birth (next_number c.args.step.now.broker.records)) refl is in
    refused_late c.args.birth c.in-Some.session.now w c.deref.result.now c.args.late.now.items c.args.step.now choice l

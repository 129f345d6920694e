use Rattle.std.proofs.Common.{◌≡◌, rules, false, [], ◌∷◌, ap, sym, subst, ◌∙◌, Some, None}
use Rattle.mqtt_records.specs.declared.messages.message.MessageCopy.{MessageCopy}
use Rattle.mqtt_broker_looks.specs.sent.Frames.{IsSpelledIn}
use Rattle.mqtt_rules.specs.step.Deeds.{Send, always}
use Rattle.mqtt_rules.specs.step.Fitting.{form_of}
use Rattle.mqtt_rules.specs.step.Forms.{published_of}
use Rattle.mqtt_rules.specs.step.Packets.{publish_of}
use Rattle.mqtt_rules.specs.step.State.{told_on}
use Rattle.mqtt_broker_step.specs.Lines.{line_number}
use Rattle.mqtt_broker_step.proofs.Doing.{on_ok, if_err}
use Rattle.mqtt_broker_step.proofs.Inverse.{row_key}
use Rattle.mqtt_broker_step.proofs.Sendings.{line_found}
use Rattle.mqtt_broker_step.proofs.Then.{same_act, same_left}
use Rattle.mqtt_broker_queue.specs.queues.Fitting.{IsOutgoingIn, offers}
use Rattle.mqtt_broker_queue.proofs.queues_lemmas.Forms.{form_spelled, offered_nothing, offers_are, out_offered}
use Rattle.mqtt_broker_queue.proofs.queues.outgoing.offer_publish.Goals as goal

pub returns-in_default-form_within-clause-ok : goal.returns-in_default-form_within-clause-ok
returns-in_default-form_within-clause-ok c =
    let s = c.args.step.now in
    let b = s.broker in
    let n = c.args.line in
    let l = c.in-Some.state.now in
    let copy = c.args.copy.now in
    let there = sym c.in-Some.ensures in
    let none : c.form_within.result ≡ None = search rules in
    let is : form_of l.largest (told_on n b.tellings) copy ≡ None =
    sym (c.form_within.ensures ∙ ap (λ most. form_of most (told_on n b.tellings) copy) c.largest.ensures) ∙ none in
    offered_nothing n copy s
    (offers_are n None l copy b (sym (line_found n b.lines) ∙ there) (row_key line_number n b.lines l there) is)

pub outgoing-requires : goal.outgoing-requires
outgoing-requires c =
    let told = told_on c.args.line c.args.step.now.broker.tellings in
    let copy = c.args.copy.now in
    subst (IsSpelledIn c.in-Some-form_within.form) (sym c.lend.ensures)
    (form_spelled c.in-Some.state.now.largest told copy (Some c.in-Some-form_within.form)
    (c.in-Some-form_within.ensures ∙ ap (λ most. form_of most told copy) c.largest.ensures) c.requires)

pub returns-clause-ok : goal.returns-clause-ok
returns-clause-ok c =
    let s = c.args.step.now in
    let b = s.broker in
    let n = c.args.line in
    let l = c.in-Some.state.now in
    let copy = c.args.copy.now in
    let form = c.in-Some-form_within.form in
    let out = c.in_ok-out.out in
    let packet = publish_of b.now false 0 copy in
    let there = sym c.in-Some.ensures in
    let found = sym (line_found n b.lines) ∙ there in
    let is : form_of l.largest (told_on n b.tellings) copy ≡ Some form =
    sym (c.in-Some-form_within.ensures ∙ ap (λ most. form_of most (told_on n b.tellings) copy) c.largest.ensures) in
    let made : IsOutgoingIn form (published_of b.now false 0 copy) out =
    subst (λ t. IsOutgoingIn form (published_of t false 0 copy) out) c.moment.ensures
    (subst (λ (m : MessageCopy). IsOutgoingIn form (published_of c.moment.result false 0 m) out) c.lend.ensures c.in_ok-out.ensures) in
    on_ok c.send_publish.result
    (same_act (always (Send n packet ∷ [])) (offers n copy) s c.send_publish.new.self (offers_are n (Some form) l copy b found (row_key line_number n b.lines l there) is))
    (c.send_publish.ensures.ok (published_of b.now false 0 copy) (out_offered n form l copy b out found is made))

pub returns-clause-left : goal.returns-clause-left
returns-clause-left c =
    let s = c.args.step.now in
    let b = s.broker in
    let n = c.args.line in
    let l = c.in-Some.state.now in
    let copy = c.args.copy.now in
    let packet = publish_of b.now false 0 copy in
    let there = sym c.in-Some.ensures in
    let is : form_of l.largest (told_on n b.tellings) copy ≡ Some c.in-Some-form_within.form =
    sym (c.in-Some-form_within.ensures ∙ ap (λ most. form_of most (told_on n b.tellings) copy) c.largest.ensures) in
    if_err c.send_publish.result
    (λ fault. same_left (always (Send n packet ∷ [])) (offers n copy) fault s c.send_publish.new.self
    (offers_are n (Some c.in-Some-form_within.form) l copy b (sym (line_found n b.lines) ∙ there) (row_key line_number n b.lines l there) is))
    (c.send_publish.ensures.left packet)

use Rattle.std.proofs.Common.{refl, subst, sym}
use Rattle.mqtt_records.specs.declared.messages.message.MessageCopy.{MessageCopy}
use Rattle.mqtt_rules.specs.step.Forms.{published_of}
use Rattle.mqtt_broker_looks.specs.sent.Frames.{IsSpelledIn}
use Rattle.mqtt_broker_step.specs.Undoing.{moment_of}
use Rattle.mqtt_broker_step.proofs.Doing.{if_ok}
use Rattle.mqtt_broker_queue.specs.queues.Fitting.{IsOutgoingIn}
use Rattle.mqtt_broker_queue.proofs.queues_lemmas.Forms.{out_row, spelled_row}
use Rattle.mqtt_broker_queue.proofs.queues.outgoing.outgoing_row.Goals as goal

pub outgoing-requires : goal.outgoing-requires
outgoing-requires c =
    let copy = c.args.row.now.copy in
    subst (IsSpelledIn c.form_on-form.result) (sym c.in-Some.ensures.exact)
    (spelled_row c.args.line c.form_on-form.result copy copy c.args.step.now.broker
    c.form_on-form.ensures refl c.size-spelled.ensures.spelled)

pub returns : goal.returns
returns c =
    let b = c.args.step.now.broker in
    let copy = c.args.row.now.copy in
    if_ok c.outgoing.result
    (λ out made. out_row c.args.line c.moment.result (moment_of b) c.args.identifier c.args.dup c.form_on-form.result copy copy b out
    c.form_on-form.ensures refl c.moment.ensures
    (subst (λ (m : MessageCopy). IsOutgoingIn c.form_on-form.result (published_of c.moment.result c.args.dup c.args.identifier m) out) c.in-Some.ensures.exact made))
    c.outgoing.ensures

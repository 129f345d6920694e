use Rattle.std.proofs.Common.{◌≡◌, rules, true, ap, sym, ◌∙◌}
use Rattle.mqtt_topic.specs.sending.Sizes as sizes
use Rattle.mqtt_rules.specs.step.Fitting.{form_of, is_due}
use Rattle.mqtt_broker_queue.proofs.queues_lemmas.Forms.{form_seen, told_due}
use Rattle.mqtt_broker_queue.proofs.queues.fitting.form_behind.Goals as goal

pub returns-then-not-is_due-clause-form : goal.returns-then-not-is_due-clause-form
returns-then-not-is_due-clause-form c =
    c.form_for.ensures
    ∙ form_seen c.largest.result c.args.state.now.largest c.args.told.now c.topic-topic.result.now c.args.row.now.copy c.row_other_bytes-other.result
    c.largest.ensures c.topic-topic.ensures c.row_other_bytes-other.ensures

pub returns-in-Ok-clause-form : goal.returns-in-Ok-clause-form
returns-in-Ok-clause-form c =
    c.in-Ok.ensures.form
    ∙ form_seen c.largest-2.result c.args.state.now.largest c.args.told.now c.topic-topic.result.now c.args.row.now.copy c.row_other_bytes-other.result
    c.largest-2.ensures c.topic-topic.ensures c.row_other_bytes-other.ensures

pub returns-in-Ok-clause-told : goal.returns-in-Ok-clause-told
returns-in-Ok-clause-told c =
    let l = c.args.state.now in
    let e = c.args.row.now in
    let told = c.args.told.now in
    let read = c.topic-topic.result.now in
    let other = c.row_other_bytes-other.result in
    let due : c.is_due.result ≡ true = search rules in
    let is : is_due c.args.now l.went e ≡ true = sym (c.is_due.ensures ∙ ap (λ went. is_due c.args.now went e) c.went.ensures) ∙ due in
    told_due (is_due c.args.now l.went e) (sizes.form_for c.largest-2.result told read other) (form_of l.largest told e.copy) read e.copy.content.topic told c.send.new.self
    is
    (form_seen c.largest-2.result l.largest told read e.copy other c.largest-2.ensures c.topic-topic.ensures c.row_other_bytes-other.ensures)
    c.topic-topic.ensures
    c.in-Ok.ensures.ok

use Rattle.std.proofs.Common.{◌≡◌, [], rules, length, ap, sym, subst, ◌∙◌, arith}
use Rattle.mqtt_keep.specs.lawful.Lawful.{IsIdentifier}
use Rattle.mqtt_props.specs.declared.table.PropName.TheVariants.{SubscriptionIdentifier}
use Rattle.mqtt_records.specs.messages.PassedOn.{number_at}
use Rattle.mqtt_rules.proofs.step_lemmas.contents.ContentPackets.{asked_identifier}
use Rattle.mqtt_broker_step.specs.Stepping.{env_in}
use Rattle.mqtt_broker_step.proofs.Doing.{on_ok, if_err}
use Rattle.mqtt_broker_acts.proofs.subscribing_lemmas.AllAnswers.{length_answers}
use Rattle.mqtt_broker_acts.proofs.subscribing_lemmas.Subscribed.{few_filters, texts_fit, packet_ok, told_left, filters_left}
use Rattle.mqtt_broker_acts.proofs.subscribing.subscribing.answer_packet.Goals as goal

pub answer_all-requires-clause-identifier : goal.answer_all-requires-clause-identifier
answer_all-requires-clause-identifier c =
    let number : c.number_at-identifier.result ≡ number_at SubscriptionIdentifier c.args.packet.now.properties = search rules in
    subst IsIdentifier (sym number) (asked_identifier c.args.packet.now c.requires.taken)

pub answer_all-requires-clause-fit : goal.answer_all-requires-clause-fit
answer_all-requires-clause-fit c = texts_fit c.args.packet.now c.requires.taken

pub tell-told-requires-clause-few : goal.tell-told-requires-clause-few
tell-told-requires-clause-few c =
    let few = few_filters c.args.packet.now c.requires.taken in
    let env = env_in (λ n client. []) c.args.step.now in
    let many : length c.deref.result.now ≡ length c.args.packet.now.subscriptions =
    ap length (c.deref.ensures.value ∙ c.in-Ok.ensures.codes (λ n client. [])) ∙ length_answers c.args.birth c.number_at-identifier.result c.args.packet.now.subscriptions env c.args.step.now.broker in
    omega (arith, few, many)

pub returns-in-Ok-clause-ok : goal.returns-in-Ok-clause-ok
returns-in-Ok-clause-ok c = λ s found.
    let number : c.number_at-identifier.result ≡ number_at SubscriptionIdentifier c.args.packet.now.properties = search rules in
    on_ok c.tell-told.result
    (packet_ok c.args.line c.args.birth c.number_at-identifier.result s c.args.packet.now c.largest_on-largest.result c.deref.result.now c.answer_all.new.late.items c.args.step.now c.answer_all.new.step c.tell-told.new.step
    (record {
      found = found;
      number = number;
      on = c.largest_on-largest.ensures;
      coded = λ choice. c.deref.ensures.value ∙ c.in-Ok.ensures.codes choice;
      sent = c.in-Ok.ensures.late;
    })
    c.in-Ok.ensures.ok)
    c.tell-told.ensures.ok

pub returns-in-Ok-clause-left : goal.returns-in-Ok-clause-left
returns-in-Ok-clause-left c = λ s found.
    let number : c.number_at-identifier.result ≡ number_at SubscriptionIdentifier c.args.packet.now.properties = search rules in
    if_err c.tell-told.result
    (λ fault. told_left c.args.line c.args.birth c.number_at-identifier.result s c.args.packet.now c.largest_on-largest.result c.deref.result.now c.answer_all.new.late.items fault c.args.step.now c.answer_all.new.step c.tell-told.new.step
    (record {
      found = found;
      number = number;
      on = c.largest_on-largest.ensures;
      coded = λ choice. c.deref.ensures.value ∙ c.in-Ok.ensures.codes choice;
      sent = c.in-Ok.ensures.late;
    })
    c.in-Ok.ensures.ok)
    c.tell-told.ensures.left

pub returns-in-Err-clause-left : goal.returns-in-Err-clause-left
returns-in-Err-clause-left c = λ s found.
    let number : c.number_at-identifier.result ≡ number_at SubscriptionIdentifier c.args.packet.now.properties = search rules in
    filters_left c.args.line c.args.birth c.number_at-identifier.result s c.args.packet.now c.in-Err.fault c.args.step.now c.answer_all.new.step found number c.in-Err.ensures.left

use Rattle.std.proofs.Common.{◌≡◌, ◌∷◌, [], ◌++◌, length, rules, ap, ◌∙◌}
use Rattle.std.specs.Prelude.{filter, map}
use Rattle.mqtt_records.specs.declared.messages.message.RetainedMessage.{RetainedMessage}
use Rattle.mqtt_routes.specs.routing.Retained.{kept_for}
use Rattle.mqtt_rules.specs.step.Subscribe.{is_brought, kept_of, message_in}
use Rattle.mqtt_broker_acts.specs.subscribing.Bringing.{brings}
use Rattle.mqtt_broker_acts.proofs.subscribing_lemmas.BroughtMessages.{brings_next, brings_last}
use Rattle.mqtt_broker_acts.proofs.subscribing.bringing.brought.Goals as goal

pub loop-kept-preserved : goal.loop-kept-preserved
loop-kept-preserved c =
    let now = c.moment-moment.result in
    let s = c.args.session.now in
    let done = c.loop-kept.all.items in
    let steps : c.loop-kept.rest.now ≡ c.in-Some.kept.now ∷ c.in-Some.after.now = search rules in
    brings_next now s c.args.asked.now c.args.options c.in-Some.kept.now c.in-Some.after.now c.loop-kept.rest.now c.args.step.now.broker.records.retained done c.push_wanted.new.all.items
    steps c.loop-kept.invariant
    (λ w f o. c.in_ok-push_wanted.ensures w f o ∙ ap (λ (k : RetainedMessage). done ++ filter (brings now s w) (k ∷ [])) c.get.ensures)

pub returns : goal.returns
returns c = λ w f o.
    let none : length c.loop-kept.rest.now ≡ 0 = search rules in
    brings_last c.moment-moment.result c.args.session.now c.args.asked.now c.args.options c.loop-kept.rest.now c.args.step.now.broker.records.retained c.loop-kept.all.items w none c.loop-kept.invariant f o
    ∙ ap (λ t. filter (is_brought t c.args.session.now w) (map message_in (kept_for w.filter (map kept_of c.args.step.now.broker.records.retained)))) c.moment-moment.ensures

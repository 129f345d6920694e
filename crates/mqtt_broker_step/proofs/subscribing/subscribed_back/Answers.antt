use Rattle.std.proofs.Common.{sym, subst, ap, ◌∙◌}
use Rattle.mqtt_records.specs.declared.state.change.Change.{Change}
use Rattle.mqtt_records.specs.declared.state.change.Change.TheVariants.{PutSubscription}
use Rattle.mqtt_records.specs.declared.state.subscription.Subscription.{Subscription}
use Rattle.mqtt_broker_step.specs.Backs.{TakesBack}
use Rattle.mqtt_broker_step.proofs.Doing.{if_ok}
use Rattle.mqtt_broker_step.proofs.FilterBacks.{over_back, beside_back, new_back}
use Rattle.mqtt_broker_step.proofs.subscribing.subscribed_back.Goals as goal

pub returns-in-Some : goal.returns-in-Some
returns-in-Some c =
    let s = c.args.session.now in
    let x = c.args.subscription.now in
    if_ok c.put.result
    (λ undo is. subst (λ (u : Change). TakesBack (PutSubscription s.birth x) u s) (sym is)
    (over_back c.as_str.result.now x c.in-Some.before.now s c.as_str.ensures.value c.has_tables.ensures c.requires (sym c.in-Some.ensures)))
    c.put.ensures

pub returns-in-Some-get : goal.returns-in-Some-get
returns-in-Some-get c =
    let s = c.args.session.now in
    let x = c.args.subscription.now in
    if_ok c.put-in-Some-get.result
    (λ undo is. subst (λ (u : Change). TakesBack (PutSubscription s.birth x) u s) (sym (is ∙ ap (λ (y : Subscription). PutSubscription s.birth y) c.get-in-Some-get.ensures))
    (beside_back c.as_str.result.now x c.in-Some-get.other.now s c.as_str.ensures.value c.has_tables.ensures c.requires (sym c.in_default.ensures) (sym c.in-Some-get.ensures)))
    c.put-in-Some-get.ensures

pub returns-in-None : goal.returns-in-None
returns-in-None c =
    let s = c.args.session.now in
    let x = c.args.subscription.now in
    if_ok c.removal.result
    (λ undo is. subst (λ (u : Change). TakesBack (PutSubscription s.birth x) u s) (sym is)
    (new_back c.as_str.result.now x s c.as_str.ensures.value (sym c.in_default.ensures) (sym c.in-None.ensures)))
    c.removal.ensures

use Rattle.std.proofs.Common.{◌≡◌, List, ◌∷◌, rules, sym, subst}
use Rattle.mqtt_records.specs.declared.state.subscription.Subscription.{Subscription}
use Rattle.mqtt_routes.specs.routing.Subscriptions.{Subscriber, subscribed}
use Rattle.mqtt_rules.specs.step.Routing.{routed_subscription}
use Rattle.mqtt_broker_queue.specs.subscribers.Following.{CanBeGiven, CanBePut}
use Rattle.mqtt_broker_queue.proofs.subscribers.index.Index.put_all.Goals as goal

pub put-requires : goal.put-requires
put-requires c =
    let is : c.loop-subscription.rest.now ≡ c.in-Some.subscription.now ∷ c.in-Some.after.now = search rules in
    let all = subst (λ (xs : List Subscription). CanBeGiven c.args.birth xs c.loop-subscription.self.sessions) is c.loop-subscription.invariant.1 in
    let same : c.get.result.now ≡ c.in-Some.subscription.now = search rules in
    subst (λ (x : Subscription). CanBePut c.args.birth x c.loop-subscription.self.sessions) (sym same) all.0

pub loop-subscription-preserved : goal.loop-subscription-preserved
loop-subscription-preserved c =
    let is : c.loop-subscription.rest.now ≡ c.in-Some.subscription.now ∷ c.in-Some.after.now = search rules in
    let all = subst (λ (xs : List Subscription). CanBeGiven c.args.birth xs c.loop-subscription.self.sessions) is c.loop-subscription.invariant.1 in
    let put : c.put.new.self.sessions ≡ subscribed c.args.birth (routed_subscription c.in-Some.subscription.now) c.loop-subscription.self.sessions = search rules in
    (search rules, subst (λ (xs : List Subscriber). CanBeGiven c.args.birth c.in-Some.after.now xs) (sym put) all.1)

use Rattle.std.proofs.Common.{◌≡◌, List, ◌∷◌, rules, sym, subst}
use Rattle.mqtt_records.specs.declared.state.session.Session.{Session}
use Rattle.mqtt_records.specs.declared.state.subscription.Subscription.{Subscription}
use Rattle.mqtt_routes.specs.routing.Subscriptions.{Subscriber}
use Rattle.mqtt_broker_queue.specs.subscribers.Following.{CanAllBeGiven, CanBeGiven, given}
use Rattle.mqtt_broker_queue.proofs.subscribers.index.Index.put_sessions.Goals as goal

pub put_all-requires : goal.put_all-requires
put_all-requires c =
    let is : c.loop-session.rest.now ≡ c.in-Some.session.now ∷ c.in-Some.after.now = search rules in
    let all = subst (λ (ss : List Session). CanAllBeGiven ss c.loop-session.self.sessions) is c.loop-session.invariant.1 in
    let same : c.get-session.result.now ≡ c.in-Some.session.now = search rules in
    let rows : c.as_slice.result.now ≡ c.get-session.result.now.subscriptions = search rules in
    subst (λ (xs : List Subscription). CanBeGiven c.get-session.result.now.birth xs c.loop-session.self.sessions) (sym rows)
    (subst (λ (s : Session). CanBeGiven s.birth s.subscriptions c.loop-session.self.sessions) (sym same) all.0)

pub loop-session-preserved : goal.loop-session-preserved
loop-session-preserved c =
    let is : c.loop-session.rest.now ≡ c.in-Some.session.now ∷ c.in-Some.after.now = search rules in
    let all = subst (λ (ss : List Session). CanAllBeGiven ss c.loop-session.self.sessions) is c.loop-session.invariant.1 in
    let given_to : c.put_all.new.self.sessions ≡ given c.in-Some.session.now.birth c.in-Some.session.now.subscriptions c.loop-session.self.sessions = search rules in
    (search rules, subst (λ (xs : List Subscriber). CanAllBeGiven c.in-Some.after.now xs) (sym given_to) all.1)

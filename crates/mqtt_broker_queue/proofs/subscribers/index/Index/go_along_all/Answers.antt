use Rattle.std.proofs.Common.{◌≡◌, List, ◌∷◌, rules, sym, subst}
use Rattle.mqtt_records.specs.declared.state.change.Change.{Change}
use Rattle.mqtt_routes.specs.routing.Subscriptions.{Subscriber}
use Rattle.mqtt_broker_queue.specs.subscribers.Following.{CanGoAlongAll}
use Rattle.mqtt_broker_queue.proofs.subscribers.index.Index.go_along_all.Goals as goal

pub go_along-requires : goal.go_along-requires
go_along-requires c =
    let is : c.loop-change.rest.now ≡ c.in-Some.change.now ∷ c.in-Some.after.now = search rules in
    (subst (λ (cs : List Change). CanGoAlongAll cs c.loop-change.self.sessions) is c.loop-change.invariant.1).0

pub loop-change-preserved : goal.loop-change-preserved
loop-change-preserved c =
    let is : c.loop-change.rest.now ≡ c.in-Some.change.now ∷ c.in-Some.after.now = search rules in
    let all = subst (λ (cs : List Change). CanGoAlongAll cs c.loop-change.self.sessions) is c.loop-change.invariant.1 in
    (search rules, subst (λ (xs : List Subscriber). CanGoAlongAll c.in-Some.after.now xs) (sym c.in_ok-go_along.ensures.followed) all.1)

use Rattle.std.proofs.Common.{List, sym, subst}
use Rattle.mqtt_records.specs.state.Records.{changed_all}
use Rattle.mqtt_routes.specs.routing.Subscriptions.{Subscriber}
use Rattle.mqtt_rules.specs.step.Routing.{subscribers}
use Rattle.mqtt_broker_step.proofs.Doing.{on_ok}
use Rattle.mqtt_broker_queue.specs.subscribers.Indexing.{Serves}
use Rattle.mqtt_broker_queue.proofs.subscribers_lemmas.Along.{serves_followed_all}
use Rattle.mqtt_broker_queue.proofs.subscribers.index.Index.follow_all.Goals as goal

pub returns-clause-serves : goal.returns-clause-serves
returns-clause-serves c = λ r h may serves.
    on_ok c.go_along_all.result
    (λ is. subst (λ (xs : List Subscriber). Serves xs (subscribers (changed_all c.args.changes.now r))) (sym is)
    (serves_followed_all c.args.changes.now r c.args.self.now.sessions h may serves))
    c.go_along_all.ensures.followed

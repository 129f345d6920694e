use Rattle.std.proofs.Common.{◌≡◌, List, ap, sym, subst}
use Rattle.mqtt_routes.specs.routing.Subscriptions.{Subscriber, HeldSessions, without_session}
use Rattle.mqtt_broker_queue.specs.subscribers.Indexing.{Serves}
use Rattle.mqtt_broker_queue.proofs.subscribers_lemmas.Serving.{serves_dropped}
use Rattle.mqtt_broker_queue.proofs.subscribers.index.Index.drop_session.Goals as goal

pub returns : goal.returns
returns c = record {
  serves = λ sessions order serves.
      let table : List Subscriber = c.self.inside.routes.table.sessions in
      let before : Serves table sessions = subst (λ (v : HeldSessions). Serves v.sessions sessions) (sym c.self.view_is) serves in
      let after : c.drop_session.new.self.table.sessions ≡ without_session c.args.birth table = ap (λ t. t.sessions) c.drop_session.ensures.after in
      subst (λ (xs : List Subscriber). Serves xs (without_session c.args.birth sessions)) (sym after)
      (serves_dropped c.args.birth table sessions order before);
}

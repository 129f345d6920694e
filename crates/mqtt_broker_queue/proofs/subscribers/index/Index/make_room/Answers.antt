use Rattle.std.proofs.Common.{◌≡◌, List, ap, sym, subst}
use Rattle.mqtt_routes.specs.routing.Subscriptions.{Subscriber, HeldSessions, filters_of, standing}
use Rattle.mqtt_broker_queue.specs.subscribers.Indexing.{Serves}
use Rattle.mqtt_broker_queue.proofs.subscribers_lemmas.Serving.{serves_standing}
use Rattle.mqtt_broker_queue.proofs.subscribers.index.Index.make_room.Goals.{in-Ok, in-Err}
use Rattle.mqtt_broker_queue.proofs.subscribers.index.Index.make_room.Goals as goal

pub returns-clause-serves : goal.returns-clause-serves
returns-clause-serves c = λ sessions serves.
    let table : List Subscriber = c.self.inside.routes.table.sessions in
    let before : Serves table sessions = subst (λ (v : HeldSessions). Serves v.sessions sessions) (sym c.self.view_is) serves in
    elim c.match-make_room.branch [
      | in-Ok w ↦
          let after : c.make_room.new.self.table.sessions ≡ standing c.args.birth (filters_of c.args.new.now) table = ap (λ t. t.sessions) w.in-Ok.ensures.ok in
          subst (λ (xs : List Subscriber). Serves xs sessions) (sym after) (serves_standing c.args.birth (filters_of c.args.new.now) table sessions before)
      | in-Err w ↦
          let after : c.make_room.new.self.table.sessions ≡ table = ap (λ t. t.sessions) w.in-Err.ensures.err in
          subst (λ (xs : List Subscriber). Serves xs sessions) (sym after) before
    ]

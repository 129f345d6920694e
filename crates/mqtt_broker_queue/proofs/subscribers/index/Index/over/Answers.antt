use Rattle.std.proofs.Common.{List, ap, sym, subst, ◌∙◌}
use Rattle.mqtt_records.specs.declared.state.session.Session.{Session}
use Rattle.mqtt_routes.specs.routing.Subscriptions.{Subscriber}
use Rattle.mqtt_broker_queue.specs.subscribers.Following.{CanAllBeGiven, given_all}
use Rattle.mqtt_broker_queue.proofs.subscribers_lemmas.Building.{serves_given}
use Rattle.mqtt_broker_queue.proofs.subscribers_lemmas.Puts.{records_can_be_given}
use Rattle.mqtt_broker_queue.proofs.subscribers.index.Index.over.Goals as goal

pub put_sessions-requires : goal.put_sessions-requires
put_sessions-requires c =
    let r = c.args.step.now.broker.records in
    subst (λ (ss : List Session). CanAllBeGiven ss c.new-index.result.sessions) (sym c.all_sessions.ensures.sessions)
    (subst (λ (table : List Subscriber). CanAllBeGiven r.sessions table) (sym c.new-index.ensures.empty) (records_can_be_given r c.requires))

pub returns-in-Ok-clause-serves : goal.returns-in-Ok-clause-serves
returns-in-Ok-clause-serves c =
    let r = c.args.step.now.broker.records in
    serves_given r c.put_sessions.new.self.sessions c.requires
    (c.in-Ok.ensures.given
    ∙ (ap (λ ss. given_all ss c.new-index.result.sessions) c.all_sessions.ensures.sessions ∙ ap (given_all r.sessions) c.new-index.ensures.empty))

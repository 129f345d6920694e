use Rattle.std.proofs.Common.{ap, sym, subst, inl, inr, refl, rules}
use Rattle.mqtt_records.specs.declared.state.records.Records.{Records}
use Rattle.mqtt_rules.specs.step.Routing.{subscribers}
use Rattle.mqtt_broker_step.specs.Stepping.{Stepping}
use Rattle.mqtt_broker_step.proofs.Doing.{on_ok}
use Rattle.mqtt_broker_queue.specs.subscribers.Indexing.{Serves}
use Rattle.mqtt_broker.proofs.stored_lemmas.Over.{begun_lawful, begun_opens, begun_spent, untold_refused}
use Rattle.mqtt_broker.proofs.stored.opening.store.Goals as goal

pub open_stamped-requires-clause-lawful : goal.open_stamped-requires-clause-lawful
open_stamped-requires-clause-lawful g c =
    let h = c.requires.begun in
    begun_lawful g.K.Keep h.0 h.1 h.2 c.args.keep.now c.args.step.now h.3

pub tell-requires : goal.tell-requires
tell-requires g c =
    let h = c.requires.begun in
    record { opened = (h.0, h.1, h.2, begun_opens g.K.Keep h.0 h.1 h.2 c.args.keep.now c.args.step.now h.3 c.open_stamped.new.step (c.in-Ok.ensures.ok h.0 h.1 h.3.some h.3.is)) }

pub returns-in-Ok-clause-told : goal.returns-in-Ok-clause-told
returns-in-Ok-clause-told g c = λ limits now whole u.
    c.tell.ensures.told limits now whole
    (begun_opens g.K.Keep limits now whole c.args.keep.now c.args.step.now u c.open_stamped.new.step (c.in-Ok.ensures.ok limits now u.some u.is))

pub returns-in-Ok-clause-serves : goal.returns-in-Ok-clause-serves
returns-in-Ok-clause-serves g c =
    on_ok c.tell.result
    (λ rest. subst (λ (r : Records). Serves c.open_stamped.new.index.sessions (subscribers r)) (sym (ap (λ (t : Stepping). t.broker.records) rest)) c.in-Ok.ensures.serves)
    c.tell.ensures.rest

pub returns-in-Err-Memory-clause-told : goal.returns-in-Err-Memory-clause-told
returns-in-Err-Memory-clause-told g c = λ limits now whole u.
    untold_refused g.K.Keep limits now whole c.args.keep.now c.args.step.now u _ c.open_stamped.new.step (inl refl) (λ is. absurd cc)

pub returns-in-Err-Spent-clause-told : goal.returns-in-Err-Spent-clause-told
returns-in-Err-Spent-clause-told g c = λ limits now whole u.
    untold_refused g.K.Keep limits now whole c.args.keep.now c.args.step.now u _ c.open_stamped.new.step (inr refl)
    (λ is. begun_spent g.K.Keep limits now whole c.args.keep.now c.args.step.now u _ c.open_stamped.new.step (c.in-Err-Spent.ensures.left limits now u.some u.is) (search rules))

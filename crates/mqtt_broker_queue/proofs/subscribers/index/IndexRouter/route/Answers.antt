use Rattle.std.proofs.Common.{sym, ◌∙◌}
use Rattle.mqtt_broker_step.proofs.Doing.{if_ok}
use Rattle.mqtt_broker_queue.proofs.subscribers_lemmas.Routed.{refused_place, refused_room, taken_is}
use Rattle.mqtt_broker_queue.proofs.subscribers.index.IndexRouter.route.Goals as goal

pub returns-then-not-finds_place-clause-routed : goal.returns-then-not-finds_place-clause-routed
returns-then-not-finds_place-clause-routed c =
    refused_place c.args.message.now c.args.step.now (λ choice. sym c.if-not-finds_place.true ∙ c.finds_place.ensures choice)

pub returns-in-Ok-Some-clause-routed : goal.returns-in-Ok-Some-clause-routed
returns-in-Ok-Some-clause-routed c =
    if_ok c.take.result
    (λ routing. taken_is routing c.args.message.now c.args.step.now c.args.self.now.sessions c.in-Ok-Some.routed c.requires.serves c.requires.lawful c.take.ensures.order
    (λ choice. sym c.if-not-finds_place.false ∙ c.finds_place.ensures choice) (rw c.in-Ok-Some.field-0-is at c.in-Ok-Some.ensures.found))
    c.take.ensures.taken

pub returns-in-Ok-None-clause-routed : goal.returns-in-Ok-None-clause-routed
returns-in-Ok-None-clause-routed c =
    refused_room c.args.message.now c.args.step.now c.args.self.now.sessions c.requires.serves
    (λ choice. sym c.if-not-finds_place.false ∙ c.finds_place.ensures choice) (rw c.in-Ok-None.field-0-is at c.in-Ok-None.ensures.found)

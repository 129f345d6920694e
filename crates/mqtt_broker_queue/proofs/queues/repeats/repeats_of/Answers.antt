use Rattle.std.proofs.Common.{◌≡◌, ap, ◌∙◌, [], map}
use Rattle.std.specs.Prelude.{Some}
use Rattle.mqtt_flow.specs.outbound.Outbound.{resumed_with}
use Rattle.mqtt_records.specs.declared.state.session.Session.{Session as TheSession}
use Rattle.mqtt_rules.specs.step.State.{entry_on, queue_on}
use Rattle.mqtt_broker_queue.specs.queues.Queues.{whole_view}
use Rattle.mqtt_broker_queue.proofs.queues.repeats.repeats_of.Goals as goal

pub returns-in-Ok-clause-turns : goal.returns-in-Ok-clause-turns
returns-in-Ok-clause-turns c = λ s found.
    let named : Some c.in-Some.session.now ≡ Some s = c.in-Some.ensures ∙ found in
    let is : c.in-Some.session.now ≡ s = cc in
    c.in-Ok.ensures.turns (whole_view [])
    ∙ (ap (λ rows. resumed_with (map (entry_on []) rows)) c.as_slice.ensures.rows
    ∙ ap (λ (x : TheSession). resumed_with (queue_on [] x)) is)

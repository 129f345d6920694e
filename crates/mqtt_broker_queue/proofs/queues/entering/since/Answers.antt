use Rattle.std.proofs.Common.{ap, ◌∙◌}
use Rattle.std.specs.Prelude.{find, option_map}
use Rattle.mqtt_records.specs.state.Session.{copy_place}
use Rattle.mqtt_rules.specs.step.Outbound.{is_new}
use Rattle.mqtt_broker_queue.proofs.queues_lemmas.Entered.{given_first, given_next, if_some}
use Rattle.mqtt_broker_queue.proofs.queues.entering.since.Goals as goal

pub returns-in-Some : goal.returns-in-Some
returns-in-Some c = λ env begun.
    let queue = c.args.session.now.queue in
    given_first (find (λ e. is_new env.start e.copy) queue) queue c.in-Some.place
    (c.in-Some.ensures env.start begun ∙ ap (λ rows. option_map copy_place (find (λ e. is_new env.start e.copy) rows)) c.as_slice.ensures.rows)

pub returns-in-None : goal.returns-in-None
returns-in-None c = λ env begun.
    let queue = c.args.session.now.queue in
    if_some c.next_place.result
    (λ place next. given_next (find (λ e. is_new env.start e.copy) queue) queue place
    (c.in-None.ensures env.start begun ∙ ap (λ rows. option_map copy_place (find (λ e. is_new env.start e.copy) rows)) c.as_slice.ensures.rows)
    next)
    c.next_place.ensures

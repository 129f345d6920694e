use Rattle.std.proofs.Common.{◌≤◌, map, ap, subst, sym, ◌∙◌}
use Rattle.mqtt_base.specs.declared.limits.TheConstants.{LAST_NUMBER}
use Rattle.mqtt_flow.specs.outbound.Outbound.{pubrec}
use Rattle.mqtt_flow.specs.outbound.Queue.{greatest_order}
use Rattle.mqtt_rules.specs.step.Fitting.{size_at, sized}
use Rattle.mqtt_rules.specs.step.State.{entry_on, queue_on}
use Rattle.mqtt_rules.proofs.step_lemmas.flight.SizedRows.{orders_sized}
use Rattle.mqtt_broker_step.proofs.Doing.{if_ok, if_err}
use Rattle.mqtt_broker_queue.specs.queues.Answering.{pubrecs}
use Rattle.mqtt_broker_queue.specs.queues.Queues.{whole_view}
use Rattle.mqtt_broker_queue.proofs.queues_lemmas.Asked.{looked, came_so, left_so, orders_alike}
use Rattle.mqtt_broker_queue.proofs.queues.answering.pubrec.Goals as goal

pub returns-clause-ok : goal.returns-clause-ok
returns-clause-ok c =
    let b = c.args.step.now.broker in
    if_ok c.take.result
    (λ answered. came_so (pubrecs c.args.birth c.args.identifier c.args.code.0) c.args.line c.args.birth c.look_pubrec-asked.result answered c.args.step.now c.take.new.step
    (looked c.args.birth (λ went s. pubrec c.args.identifier c.args.code.0 (queue_on went s)) c.look_pubrec-asked.result c.in-Some.session.now b (sym c.in-Some.ensures) (λ went. c.look_pubrec-asked.ensures (whole_view went) ∙ ap (λ rows. pubrec c.args.identifier c.args.code.0 (map (entry_on went) rows)) c.as_slice.ensures.rows)))
    c.take.ensures.ok

pub returns-clause-left : goal.returns-clause-left
returns-clause-left c = λ env l number.
    let b = c.args.step.now.broker in
    if_err c.take.result
    (λ fault. left_so (pubrecs c.args.birth c.args.identifier c.args.code.0) c.args.birth c.look_pubrec-asked.result env l fault c.args.step.now c.take.new.step
    (looked c.args.birth (λ went s. pubrec c.args.identifier c.args.code.0 (queue_on went s)) c.look_pubrec-asked.result c.in-Some.session.now b (sym c.in-Some.ensures) (λ went. c.look_pubrec-asked.ensures (whole_view went) ∙ ap (λ rows. pubrec c.args.identifier c.args.code.0 (map (entry_on went) rows)) c.as_slice.ensures.rows)))
    (c.take.ensures.left env l number)

pub look_pubrec-asked-requires : goal.look_pubrec-asked-requires
look_pubrec-asked-requires c = λ view.
    let queue = c.in-Some.session.now.queue in
    let size = size_at view.sizes in
    subst (λ n. n ≤ LAST_NUMBER)
    (sym (ap (λ rows. greatest_order (map (sized size view.went) rows)) c.as_slice.ensures.rows
    ∙ (orders_sized size view.went queue ∙ orders_alike view.went queue)))
    (c.requires c.in-Some.session.now (sym c.in-Some.ensures))

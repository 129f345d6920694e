use Rattle.std.proofs.Common.{map, ap, sym, ◌∙◌}
use Rattle.mqtt_flow.specs.outbound.Outbound.{pubcomp}
use Rattle.mqtt_rules.specs.step.State.{entry_on, queue_on}
use Rattle.mqtt_broker_step.proofs.Doing.{if_ok, if_err}
use Rattle.mqtt_broker_queue.specs.queues.Answering.{pubcomps}
use Rattle.mqtt_broker_queue.specs.queues.Queues.{whole_view}
use Rattle.mqtt_broker_queue.proofs.queues_lemmas.Asked.{looked, came_so, left_so}
use Rattle.mqtt_broker_queue.proofs.queues.answering.pubcomp.Goals as goal

pub returns-clause-ok : goal.returns-clause-ok
returns-clause-ok c =
    let b = c.args.step.now.broker in
    if_ok c.take.result
    (λ answered. came_so (pubcomps c.args.birth c.args.identifier) c.args.line c.args.birth c.look_pubcomp-asked.result answered c.args.step.now c.take.new.step
    (looked c.args.birth (λ went s. pubcomp c.args.identifier (queue_on went s)) c.look_pubcomp-asked.result c.in-Some.session.now b (sym c.in-Some.ensures) (λ went. c.look_pubcomp-asked.ensures (whole_view went) ∙ ap (λ rows. pubcomp c.args.identifier (map (entry_on went) rows)) c.as_slice.ensures.rows)))
    c.take.ensures.ok

pub returns-clause-left : goal.returns-clause-left
returns-clause-left c = λ env l number.
    let b = c.args.step.now.broker in
    if_err c.take.result
    (λ fault. left_so (pubcomps c.args.birth c.args.identifier) c.args.birth c.look_pubcomp-asked.result env l fault c.args.step.now c.take.new.step
    (looked c.args.birth (λ went s. pubcomp c.args.identifier (queue_on went s)) c.look_pubcomp-asked.result c.in-Some.session.now b (sym c.in-Some.ensures) (λ went. c.look_pubcomp-asked.ensures (whole_view went) ∙ ap (λ rows. pubcomp c.args.identifier (map (entry_on went) rows)) c.as_slice.ensures.rows)))
    (c.take.ensures.left env l number)

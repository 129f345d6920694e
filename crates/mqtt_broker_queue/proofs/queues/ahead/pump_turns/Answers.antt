use Rattle.std.proofs.Common.{◌≡◌, ◌≤◌, [], map, refl, ap, sym, subst, ◌∙◌}
use Rattle.mqtt_base.specs.declared.limits.TheConstants.{LAST_NUMBER}
use Rattle.mqtt_flow.specs.outbound.Queue.{greatest_order}
use Rattle.mqtt_rules.specs.step.Fitting.{size_at, sized}
use Rattle.mqtt_rules.specs.step.State.{queue_on}
use Rattle.mqtt_rules.proofs.step_lemmas.flight.SizedRows.{orders_sized}
use Rattle.mqtt_broker_step.specs.Undoing.{with_moment_of}
use Rattle.mqtt_broker_queue.proofs.queues_lemmas.Asked.{orders_alike}
use Rattle.mqtt_broker_queue.proofs.queues_lemmas.Listed.{pumped}
use Rattle.mqtt_broker_queue.proofs.queues_lemmas.Pumped.{same_way, way_with}
use Rattle.mqtt_broker_queue.proofs.queues.ahead.pump_turns.Goals as goal

pub look_pump-requires-clause-orders : goal.look_pump-requires-clause-orders
look_pump-requires-clause-orders c =
    let rows = c.as_slice-rows.result.now in
    let size = size_at c.deref.result.now in
    let same : greatest_order (map (sized size c.went.result.now) rows) ≡ greatest_order (queue_on [] c.args.session.now) =
    ap (λ q. greatest_order (map (sized size c.went.result.now) q)) c.as_slice-rows.ensures.rows
    ∙ (orders_sized size c.went.result.now c.args.session.now.queue ∙ orders_alike c.went.result.now c.args.session.now.queue) in
    subst (λ n. n ≤ LAST_NUMBER) (sym same) c.requires

pub returns-in-Ok-clause-turns : goal.returns-in-Ok-clause-turns
returns-in-Ok-clause-turns c =
    let b = with_moment_of c.args.now c.args.step.now.broker in
    c.in-Ok.ensures.turns
    ∙ pumped c.args.state.now b c.args.session.now (way_with c.window.result c.largest.result c.args.now) c.went.result.now c.deref.result.now c.as_slice-rows.result.now
    (same_way c.window.ensures c.largest.ensures refl) c.went.ensures
    (c.deref.ensures.value ∙ c.in_ok-sizes.ensures.sizes) c.as_slice-rows.ensures.rows c.as_slice-rows.ensures.order

use Rattle.std.proofs.Common.{arith, ◌≡◌, ◌+◌, ◌-◌, [], length, map, ap, subst, sym, ◌∙◌}
use Rattle.mqtt_flow.specs.outbound.Outbound.{has_room, way_made}
use Rattle.mqtt_rules.proofs.step_lemmas.fit.TurnLists.{drops_rise}
use Rattle.mqtt_rules.proofs.step_lemmas.fit.Turns.{Rises}
use Rattle.mqtt_rules.specs.step.Outbound.{queue_limits, since}
use Rattle.mqtt_rules.specs.step.State.{MemberChoice, entry_on, queue_on}
use Rattle.mqtt_broker_step.specs.Stepping.{env_in}
use Rattle.mqtt_broker_queue.specs.queues.Queues.{whole_view}
use Rattle.mqtt_broker_queue.proofs.queues_lemmas.Entered.{kept_memory, limits_of, none_made, room_found}
use Rattle.mqtt_broker_queue.proofs.queues.entering.way_turns.Goals as goal

pub of_memory-requires : goal.of_memory-requires
of_memory-requires c =
    let choice : MemberChoice = λ number sender. [] in
    let env = env_in choice c.args.step.now in
    let l = c.limits-sizes.result in
    kept_memory (has_room (limits_of l) c.in-Some.since (map (entry_on []) c.as_slice-queue.result.now)) c.in-Err.fault
    (room_found l env c.args.session.now c.in-Some.since (map (entry_on []) c.as_slice-queue.result.now) c.limits-sizes.ensures (c.in-Some.ensures env c.beginning.ensures)
    (ap (map (entry_on [])) c.as_slice-queue.ensures.rows) (c.requires choice))
    (c.in-Err.ensures.fault (whole_view []))

pub returns-in-Ok-clause-turns : goal.returns-in-Ok-clause-turns
returns-in-Ok-clause-turns c = λ choice.
    let env = env_in choice c.args.step.now in
    let l = c.limits-sizes.result in
    let queue = queue_on [] c.args.session.now in
    c.in-Ok.ensures.turns (whole_view [])
    ∙ (ap (λ rows. way_made (limits_of l) c.in-Some.since (map (entry_on []) rows)) c.as_slice-queue.ensures.rows
    ∙ (ap (λ place. way_made (limits_of l) place queue) (c.in-Some.ensures env c.beginning.ensures)
    ∙ ap (λ k. way_made (limits_of k) (since env c.args.session.now) queue) c.limits-sizes.ensures))

pub returns-in-Ok-clause-rise : goal.returns-in-Ok-clause-rise
returns-in-Ok-clause-rise c =
    let l = c.limits-sizes.result in
    let queue = queue_on [] c.args.session.now in
    let is : c.in-Ok.turns.items ≡ way_made (limits_of l) c.in-Some.since queue =
    c.in-Ok.ensures.turns (whole_view []) ∙ ap (λ rows. way_made (limits_of l) c.in-Some.since (map (entry_on []) rows)) c.as_slice-queue.ensures.rows in
    subst (λ ts. Rises c.args.session.now.queue 0 ts) (sym is)
    (drops_rise (length queue + 1 - l.queue) c.in-Some.since c.args.session.now c.as_slice-queue.ensures.order)

pub returns-in-Ok-clause-table : goal.returns-in-Ok-clause-table
returns-in-Ok-clause-table c = record {
  ascending = c.as_slice-queue.ensures.order;
  within = c.as_slice-queue.ensures.few;
}

pub returns-then-queue-sizes-clause-turns : goal.returns-then-queue-sizes-clause-turns
returns-then-queue-sizes-clause-turns c = λ choice.
    let env = env_in choice c.args.step.now in
    let x = c.args.session.now in
    let rows = ap length c.as_slice-queue.ensures.rows in
    let limit = ap (λ k. k.queue) c.limits-sizes.ensures in
    let less = c.if-queue-sizes.true in
    c.new.ensures.items ∙ sym (none_made (queue_limits env) (since env x) x (omega (arith, less, rows, limit)))

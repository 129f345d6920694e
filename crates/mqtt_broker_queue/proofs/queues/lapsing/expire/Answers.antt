use Rattle.std.proofs.Common.{ap, sym, ◌∙◌, []}
use Rattle.mqtt_flow.specs.outbound.Outbound.{expired}
use Rattle.mqtt_rules.specs.step.State.{queue_on}
use Rattle.mqtt_broker_step.proofs.Doing.{on_ok, if_err}
use Rattle.mqtt_broker_queue.specs.queues.Turning.{takes_turns, lapses_of}
use Rattle.mqtt_broker_queue.proofs.queues_lemmas.Pumped.{rise_there, lapses_is}
use Rattle.mqtt_broker_step.proofs.Then.{same_act, same_left}
use Rattle.mqtt_broker_queue.proofs.queues.lapsing.expire.Goals as goal

pub take_turns-requires : goal.take_turns-requires
take_turns-requires c =
    rise_there c.args.birth c.in-Some.session.now c.in_ok-turns.turns.items c.args.step.now.broker (sym c.in-Some.ensures) c.in_ok-turns.ensures.rise

pub returns-clause-ok : goal.returns-clause-ok
returns-clause-ok c =
    on_ok c.take_turns.result
    (same_act (takes_turns 0 c.args.birth c.in_ok-turns.turns.items) (lapses_of c.args.birth) c.args.step.now c.take_turns.new.step
    (lapses_is 0 c.args.birth c.in_ok-turns.turns.items c.in-Some.session.now c.args.step.now.broker (sym c.in-Some.ensures) (c.in_ok-turns.ensures.turns ∙ ap (λ t. expired t (queue_on [] c.in-Some.session.now)) c.moment.ensures)))
    c.take_turns.ensures.ok

pub returns-clause-left : goal.returns-clause-left
returns-clause-left c =
    if_err c.take_turns.result
    (λ fault. same_left (takes_turns 0 c.args.birth c.in_ok-turns.turns.items) (lapses_of c.args.birth) fault c.args.step.now c.take_turns.new.step
    (lapses_is 0 c.args.birth c.in_ok-turns.turns.items c.in-Some.session.now c.args.step.now.broker (sym c.in-Some.ensures) (c.in_ok-turns.ensures.turns ∙ ap (λ t. expired t (queue_on [] c.in-Some.session.now)) c.moment.ensures)))
    c.take_turns.ensures.left

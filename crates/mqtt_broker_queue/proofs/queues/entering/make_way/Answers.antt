use Rattle.std.proofs.Common.{sym}
use Rattle.mqtt_broker_step.specs.Stepping.{env_in}
use Rattle.mqtt_broker_step.proofs.Doing.{on_ok, if_err}
use Rattle.mqtt_broker_queue.specs.queues.Entering.{makes_way}
use Rattle.mqtt_broker_queue.specs.queues.Turning.{takes_turns}
use Rattle.mqtt_broker_queue.proofs.queues_lemmas.Entered.{table_there, way_is}
use Rattle.mqtt_broker_queue.proofs.queues_lemmas.Pumped.{rise_there}
use Rattle.mqtt_broker_step.proofs.Then.{same_act, same_left}
use Rattle.mqtt_broker_queue.proofs.queues.entering.make_way.Goals as goal

pub take_turns-requires : goal.take_turns-requires
take_turns-requires c =
    rise_there c.args.birth c.in-Some.session.now c.in_ok-turns.turns.items c.args.step.now.broker (sym c.in-Some.ensures) c.in_ok-turns.ensures.rise

pub returns-clause-ok : goal.returns-clause-ok
returns-clause-ok c =
    let s = c.args.step.now in
    on_ok c.take_turns.result
    (λ is choice.
    let env = env_in choice s in
    same_act (takes_turns 0 c.args.birth c.in_ok-turns.turns.items) (makes_way env c.args.birth) s c.take_turns.new.step
    (way_is 0 c.args.birth env c.in_ok-turns.turns.items c.in-Some.session.now s.broker (sym c.in-Some.ensures) (c.in_ok-turns.ensures.turns choice)) is)
    c.take_turns.ensures.ok

pub returns-clause-left : goal.returns-clause-left
returns-clause-left c =
    let s = c.args.step.now in
    if_err c.take_turns.result
    (λ fault is choice.
    let env = env_in choice s in
    same_left (takes_turns 0 c.args.birth c.in_ok-turns.turns.items) (makes_way env c.args.birth) fault s c.take_turns.new.step
    (way_is 0 c.args.birth env c.in_ok-turns.turns.items c.in-Some.session.now s.broker (sym c.in-Some.ensures) (c.in_ok-turns.ensures.turns choice)) is)
    c.take_turns.ensures.left

pub way_turns-requires : goal.way_turns-requires
way_turns-requires c = λ choice. c.requires choice c.in-Some.session.now (sym c.in-Some.ensures)

pub returns-clause-table : goal.returns-clause-table
returns-clause-table c =
    on_ok c.take_turns.result
    (λ is. table_there c.args.birth c.in-Some.session.now c.args.step.now.broker (sym c.in-Some.ensures) c.in_ok-turns.ensures.table) c.take_turns.ensures.ok

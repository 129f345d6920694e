use Rattle.mqtt_broker_step.proofs.Doing.{on_ok, if_err}
use Rattle.mqtt_broker_queue.proofs.queues_lemmas.Entered.{entered_at, entered_done, entered_left, way_left}
use Rattle.mqtt_broker_queue.proofs.queues.entering.enter.Goals as goal

pub returns-in-Ok-clause-ok : goal.returns-in-Ok-clause-ok
returns-in-Ok-clause-ok c =
    on_ok c.enter.result (entered_done c.args.birth c.args.copy c.args.step.now c.make_way.new.step c.enter.new.self c.in-Ok.ensures.ok) c.enter.ensures.ok

pub returns-in-Ok-clause-left : goal.returns-in-Ok-clause-left
returns-in-Ok-clause-left c =
    if_err c.enter.result (λ fault. entered_left c.args.birth c.args.copy fault c.args.step.now c.make_way.new.step c.enter.new.self c.in-Ok.ensures.ok) c.enter.ensures.left

pub returns-in-Err-clause-left : goal.returns-in-Err-clause-left
returns-in-Err-clause-left c = way_left c.args.birth c.args.copy c.in-Err.fault c.args.step.now c.make_way.new.step c.in-Err.ensures.left

pub returns-in-Ok-clause-entered : goal.returns-in-Ok-clause-entered
returns-in-Ok-clause-entered c =
    on_ok c.enter.result
    (λ is. entered_at c.args.birth c.args.copy c.args.step.now c.enter.new.self c.in-Ok.ensures.table c.requires.room
    (entered_done c.args.birth c.args.copy c.args.step.now c.make_way.new.step c.enter.new.self c.in-Ok.ensures.ok is))
    c.enter.ensures.ok

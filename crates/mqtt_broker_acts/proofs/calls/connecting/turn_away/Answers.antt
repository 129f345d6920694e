use Rattle.mqtt_broker_step.proofs.Doing.{if_err, on_ok}
use Rattle.mqtt_broker_acts.proofs.calls_lemmas.Greeted.{turned, turned_left, untold_left}
use Rattle.mqtt_broker_acts.proofs.calls.connecting.turn_away.Goals as goal

pub returns-in-Ok-clause-ok : goal.returns-in-Ok-clause-ok
returns-in-Ok-clause-ok c = λ l number.
    on_ok c.refuse.result
    (turned c.args.line l c.args.connect.now c.args.step.now c.hear.new.self c.refuse.new.step number c.in-Ok.ensures.ok)
    (c.refuse.ensures.ok l number)

pub returns-in-Ok-clause-left : goal.returns-in-Ok-clause-left
returns-in-Ok-clause-left c = λ l number.
    if_err c.refuse.result
    (λ fault. turned_left c.args.line l c.args.connect.now fault c.args.step.now c.hear.new.self c.refuse.new.step number c.in-Ok.ensures.ok)
    (c.refuse.ensures.left l number)

pub returns-in-Err-clause-left : goal.returns-in-Err-clause-left
returns-in-Err-clause-left c = λ l number.
    untold_left c.args.line l c.args.connect.now c.in-Err.fault c.args.step.now c.hear.new.self number c.in-Err.ensures.left

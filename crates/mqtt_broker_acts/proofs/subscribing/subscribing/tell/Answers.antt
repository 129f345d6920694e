use Rattle.mqtt_broker_step.proofs.Doing.{on_ok, if_err}
use Rattle.mqtt_broker_acts.proofs.subscribing_lemmas.Subscribed.{told_ok, told_first, told_then}
use Rattle.mqtt_broker_acts.proofs.subscribing.subscribing.tell.Goals as goal

pub returns-in-Ok-clause-ok : goal.returns-in-Ok-clause-ok
returns-in-Ok-clause-ok c =
    on_ok c.send_late.result
    (told_ok c.args.line c.args.largest c.args.identifier c.args.codes.now c.args.late.items c.args.step.now c.offer_suback.new.step c.send_late.new.step c.in-Ok.ensures.ok)
    c.send_late.ensures.ok

pub returns-in-Ok-clause-left : goal.returns-in-Ok-clause-left
returns-in-Ok-clause-left c =
    if_err c.send_late.result
    (λ fault. told_then c.args.line c.args.largest c.args.identifier c.args.codes.now c.args.late.items fault c.args.step.now c.offer_suback.new.step c.send_late.new.step c.in-Ok.ensures.ok)
    c.send_late.ensures.left

pub returns-in-Err-clause-left : goal.returns-in-Err-clause-left
returns-in-Err-clause-left c =
    told_first c.args.line c.args.largest c.args.identifier c.args.codes.now c.args.late.items c.in-Err.fault c.args.step.now c.offer_suback.new.step c.in-Err.ensures.left

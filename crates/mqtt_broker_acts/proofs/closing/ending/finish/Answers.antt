use Rattle.std.proofs.Common.{sym}
use Rattle.mqtt_rules.specs.step.Deeds.{whose}
use Rattle.mqtt_broker_step.proofs.Doing.{on_ok, if_err, found_birth}
use Rattle.mqtt_broker_acts.proofs.closing_lemmas.Ended.{finish_did, finish_left}
use Rattle.mqtt_broker_acts.proofs.closing.ending.finish.Goals as goal

pub returns-in-Some-clause-ok : goal.returns-in-Some-clause-ok
returns-in-Some-clause-ok c =
    let x = c.in-Some.field-0.now in
    on_ok c.finish.result (finish_did c.args.birth x c.args.step.now c.finish.new.self (sym c.in-Some.ensures))
    (c.finish.ensures.ok (whose x) (found_birth c.args.birth c.args.step.now.broker.records.sessions x (sym c.in-Some.ensures)))

pub returns-in-Some-clause-left : goal.returns-in-Some-clause-left
returns-in-Some-clause-left c =
    let x = c.in-Some.field-0.now in
    if_err c.finish.result (λ fault. finish_left c.args.birth x fault c.args.step.now c.finish.new.self (sym c.in-Some.ensures))
    (c.finish.ensures.left (whose x))

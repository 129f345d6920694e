use Rattle.std.proofs.Common.{◌++◌}
use Rattle.mqtt_rules.specs.step.Connect.{resume}
use Rattle.mqtt_rules.specs.step.Deeds.{always}
use Rattle.mqtt_broker_step.proofs.Doing.{on_ok, if_err}
use Rattle.mqtt_broker_step.proofs.Then.{same_act, same_left}
use Rattle.mqtt_broker_acts.specs.connecting.Connecting.{resumed_told, repeats}
use Rattle.mqtt_broker_acts.proofs.connecting_lemmas.Wholes.{resumed_whole}
use Rattle.mqtt_broker_acts.proofs.connecting.resuming.resume.Goals as goal

pub returns-clause-ok : goal.returns-clause-ok
returns-clause-ok c = λ l x number found.
    on_ok c.resume_with.result
    (same_act (always (resumed_told l c.args.connect.now x ++ repeats c.args.line c.in_ok-turns.turns.items)) (λ b. resume l c.args.connect.now b.now x) c.args.step.now c.resume_with.new.step
    (resumed_whole l c.args.line c.args.step.now.broker.now c.args.connect.now x c.in_ok-turns.turns.items number (c.in_ok-turns.ensures.turns x found)))
    (c.resume_with.ensures.ok l x number found)

pub returns-clause-left : goal.returns-clause-left
returns-clause-left c = λ l x number found.
    if_err c.resume_with.result
    (λ fault. same_left (always (resumed_told l c.args.connect.now x ++ repeats c.args.line c.in_ok-turns.turns.items)) (λ b. resume l c.args.connect.now b.now x) fault c.args.step.now c.resume_with.new.step
    (resumed_whole l c.args.line c.args.step.now.broker.now c.args.connect.now x c.in_ok-turns.turns.items number (c.in_ok-turns.ensures.turns x found)))
    (c.resume_with.ensures.left l x number found)

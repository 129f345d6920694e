use Rattle.std.proofs.Common.{◌++◌, refl}
use Rattle.mqtt_rules.specs.step.Deeds.{always}
use Rattle.mqtt_broker_step.proofs.Doing.{on_ok, if_err}
use Rattle.mqtt_broker_acts.specs.connecting.Connecting.{resumed_told, repeats}
use Rattle.mqtt_broker_acts.proofs.connecting_lemmas.Parts.{both_done, first_left, second_left}
use Rattle.mqtt_broker_acts.proofs.connecting.resuming.resume_with.Goals as goal

pub returns-in-Ok-clause-ok : goal.returns-in-Ok-clause-ok
returns-in-Ok-clause-ok c = λ l x number found.
    let more = repeats c.args.line c.args.turns.items in
    on_ok c.repeat_all.result
    (both_done (always (resumed_told l c.args.connect.now x)) (always more) (always (resumed_told l c.args.connect.now x ++ more)) c.args.step.now c.resume_told.new.step c.repeat_all.new.step
    refl (c.in-Ok.ensures.ok l x number found))
    c.repeat_all.ensures.ok

pub returns-in-Ok-clause-left : goal.returns-in-Ok-clause-left
returns-in-Ok-clause-left c = λ l x number found.
    let more = repeats c.args.line c.args.turns.items in
    if_err c.repeat_all.result
    (λ fault. second_left (always (resumed_told l c.args.connect.now x)) (always more) (always (resumed_told l c.args.connect.now x ++ more)) fault c.args.step.now c.resume_told.new.step c.repeat_all.new.step
    refl (c.in-Ok.ensures.ok l x number found))
    c.repeat_all.ensures.left

pub returns-in-Err-clause-left : goal.returns-in-Err-clause-left
returns-in-Err-clause-left c = λ l x number found.
    let more = repeats c.args.line c.args.turns.items in
    first_left (always (resumed_told l c.args.connect.now x)) (always more) (always (resumed_told l c.args.connect.now x ++ more)) c.in-Err.fault c.args.step.now c.resume_told.new.step
    refl (c.in-Err.ensures.left l x number found)

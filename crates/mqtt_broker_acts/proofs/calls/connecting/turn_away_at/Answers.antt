use Rattle.std.proofs.Common.{subst}
use Rattle.std.specs.Prelude.{IfErr, OnOk}
use Rattle.mqtt_broker_step.specs.Stepping.{Stepping, Did, IsLeft}
use Rattle.mqtt_broker_acts.specs.calls.First.{turns_away}
use Rattle.mqtt_broker_acts.proofs.calls_lemmas.Greeted.{again_is, not_again}
use Rattle.mqtt_broker_acts.proofs.calls.connecting.turn_away_at.Goals as goal

pub returns-in-Ok-clause-ok : goal.returns-in-Ok-clause-ok
returns-in-Ok-clause-ok g c = λ l number.
    let same = again_is c.args.moment c.args.step.now c.take_back.new.self c.begin.new.self c.take_back.ensures c.in-Ok.ensures.ok in
    subst (λ (t : Stepping). OnOk c.turn_away.result (Did (turns_away l c.args.connect.now) t c.turn_away.new.step)) same (c.turn_away.ensures.ok l number)

pub returns-in-Ok-clause-left : goal.returns-in-Ok-clause-left
returns-in-Ok-clause-left g c = λ l number.
    let same = again_is c.args.moment c.args.step.now c.take_back.new.self c.begin.new.self c.take_back.ensures c.in-Ok.ensures.ok in
    subst (λ (t : Stepping). IfErr c.turn_away.result (λ fault. IsLeft (turns_away l c.args.connect.now) fault t c.turn_away.new.step)) same (c.turn_away.ensures.left l number)

pub returns-in-Err-clause-left : goal.returns-in-Err-clause-left
returns-in-Err-clause-left g c = λ l number.
    not_again l c.args.connect.now c.args.moment c.in-Err.fault c.args.step.now c.take_back.new.self c.begin.new.self c.take_back.ensures c.in-Err.ensures.err c.in-Err.ensures.fault

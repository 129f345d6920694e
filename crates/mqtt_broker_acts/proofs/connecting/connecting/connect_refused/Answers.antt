use Rattle.std.proofs.Common.{sym}
use Rattle.std.specs.Prelude.{Some}
use Rattle.mqtt_rules.specs.step.Connect.{on_connect, refused}
use Rattle.mqtt_rules.specs.step.Deeds.{always}
use Rattle.mqtt_broker_step.specs.Stepping.{env_in}
use Rattle.mqtt_broker_step.proofs.Doing.{on_ok, if_err}
use Rattle.mqtt_broker_step.proofs.Then.{same_act, same_left}
use Rattle.mqtt_broker_acts.proofs.connecting_lemmas.Connected.{by_refusal}
use Rattle.mqtt_broker_acts.proofs.connecting.connecting.connect_refused.Goals as goal

pub returns-clause-ok : goal.returns-clause-ok
returns-clause-ok c = λ l number.
    let s = c.args.step.now in
    on_ok c.refuse.result
    (λ is choice. same_act (always (refused l c.args.connect.now c.args.code.0)) (on_connect (env_in choice s) l c.args.connect.now) s c.refuse.new.step
    (by_refusal (Some c.args.code.0) (env_in choice s) l c.args.connect.now s.broker (sym c.requires)) is)
    (c.refuse.ensures.ok l number)

pub returns-clause-left : goal.returns-clause-left
returns-clause-left c = λ l number.
    let s = c.args.step.now in
    if_err c.refuse.result
    (λ fault is choice. same_left (always (refused l c.args.connect.now c.args.code.0)) (on_connect (env_in choice s) l c.args.connect.now) fault s c.refuse.new.step
    (by_refusal (Some c.args.code.0) (env_in choice s) l c.args.connect.now s.broker (sym c.requires)) is)
    (c.refuse.ensures.left l number)

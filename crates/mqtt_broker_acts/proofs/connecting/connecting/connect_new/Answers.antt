use Rattle.std.proofs.Common.{◌≡◌, ap}
use Rattle.std.specs.Prelude.{Some, None, is_some}
use Rattle.mqtt_rules.specs.step.Connect.{connect_by, on_connect, refused, refusal}
use Rattle.mqtt_rules.specs.step.Deeds.{always}
use Rattle.mqtt_broker_step.specs.Stepping.{env_in}
use Rattle.mqtt_broker_step.proofs.Doing.{on_ok, if_err}
use Rattle.mqtt_broker_step.proofs.Then.{same_act, same_left}
use Rattle.mqtt_broker_acts.proofs.connecting_lemmas.Connected.{by_refusal}
use Rattle.mqtt_broker_acts.proofs.connecting.connecting.connect_new.Goals as goal

pub returns-in-Some-clause-ok : goal.returns-in-Some-clause-ok
returns-in-Some-clause-ok c = λ l number.
    let s = c.args.step.now in
    let is_refused : Some c.in-Some.code.0 ≡ refusal c.args.connect.now c.args.step.now.broker.records = c.in-Some.ensures c.args.step.now.broker.records (ap is_some c.requires.new) in
    on_ok c.refuse.result
    (λ is choice. same_act (always (refused l c.args.connect.now c.in-Some.code.0)) (on_connect (env_in choice s) l c.args.connect.now) s c.refuse.new.step
    (by_refusal (Some c.in-Some.code.0) (env_in choice s) l c.args.connect.now s.broker is_refused) is)
    (c.refuse.ensures.ok l number)

pub returns-in-Some-clause-left : goal.returns-in-Some-clause-left
returns-in-Some-clause-left c = λ l number.
    let s = c.args.step.now in
    let is_refused : Some c.in-Some.code.0 ≡ refusal c.args.connect.now c.args.step.now.broker.records = c.in-Some.ensures c.args.step.now.broker.records (ap is_some c.requires.new) in
    if_err c.refuse.result
    (λ fault is choice. same_left (always (refused l c.args.connect.now c.in-Some.code.0)) (on_connect (env_in choice s) l c.args.connect.now) fault s c.refuse.new.step
    (by_refusal (Some c.in-Some.code.0) (env_in choice s) l c.args.connect.now s.broker is_refused) is)
    (c.refuse.ensures.left l number)

pub returns-in-None-clause-ok : goal.returns-in-None-clause-ok
returns-in-None-clause-ok c = λ l number.
    let s = c.args.step.now in
    let is_not : None ≡ refusal c.args.connect.now c.args.step.now.broker.records = c.in-None.ensures c.args.step.now.broker.records (ap is_some c.requires.new) in
    on_ok c.begin_or_refuse.result
    (λ is choice. same_act (connect_by None (env_in choice s) l c.args.connect.now) (on_connect (env_in choice s) l c.args.connect.now) s c.begin_or_refuse.new.step
    (by_refusal None (env_in choice s) l c.args.connect.now s.broker is_not) (is choice))
    (c.begin_or_refuse.ensures.ok l number)

pub returns-in-None-clause-left : goal.returns-in-None-clause-left
returns-in-None-clause-left c = λ l number.
    let s = c.args.step.now in
    let is_not : None ≡ refusal c.args.connect.now c.args.step.now.broker.records = c.in-None.ensures c.args.step.now.broker.records (ap is_some c.requires.new) in
    if_err c.begin_or_refuse.result
    (λ fault is choice. same_left (connect_by None (env_in choice s) l c.args.connect.now) (on_connect (env_in choice s) l c.args.connect.now) fault s c.begin_or_refuse.new.step
    (by_refusal None (env_in choice s) l c.args.connect.now s.broker is_not) (is choice))
    (c.begin_or_refuse.ensures.left l number)

use Rattle.std.proofs.Common.{◌≡◌, ap, sym}
use Rattle.mqtt_records.specs.declared.state.session.Session.{Session}
use Rattle.mqtt_rules.specs.step.Deeds.{Resume}
use Rattle.mqtt_broker_step.specs.Stepping.{Stepping, to_session, written}
use Rattle.mqtt_broker_step.proofs.Doing.{on_ok, if_err}
use Rattle.mqtt_broker_step.proofs.Resumed.{resumed_row, resume_ok, resume_left, kept_later}
use Rattle.mqtt_broker_step.proofs.step.Step.resume.Goals as goal

pub returns-in-Ok-clause-ok : goal.returns-in-Ok-clause-ok
returns-in-Ok-clause-ok c =
    let x : Session = c.in-Some.field-0.now in
    let found = sym c.in-Some.ensures in
    let row : c.connect_row.new.self ≡ written (resumed_row c.args.expiry x) c.args.self.now = c.in-Ok.ensures.ok x found in
    on_ok c.put_will.result
    (resume_ok c.args.birth c.args.expiry c.args.will x c.args.self.now c.connect_row.new.self c.put_will.new.self found row)
    c.put_will.ensures.ok

pub returns-in-Ok-clause-left : goal.returns-in-Ok-clause-left
returns-in-Ok-clause-left c =
    let x : Session = c.in-Some.field-0.now in
    let found = sym c.in-Some.ensures in
    let row : c.connect_row.new.self ≡ written (resumed_row c.args.expiry x) c.args.self.now = c.in-Ok.ensures.ok x found in
    if_err c.put_will.result
    (λ fault. kept_later (to_session c.args.birth (Resume c.args.expiry c.args.will)) fault c.args.self.now c.connect_row.new.self c.put_will.new.self
    (ap (λ (s : Stepping). s.start) row) (ap (λ (s : Stepping). s.limits) row))
    c.put_will.ensures.left

pub returns-in-Err-clause-left : goal.returns-in-Err-clause-left
returns-in-Err-clause-left c =
    let x : Session = c.in-Some.field-0.now in
    let found = sym c.in-Some.ensures in
    resume_left c.args.birth c.args.expiry c.args.will x c.in-Err.fault c.args.self.now c.connect_row.new.self found (c.in-Err.ensures.left x found)

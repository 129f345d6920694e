use Rattle.std.proofs.Common.{subst}
use Rattle.mqtt_records.specs.declared.state.change.Change.{Change}
use Rattle.mqtt_broker_step.specs.Stepping.{IsRefusedRow}
use Rattle.mqtt_broker_step.proofs.Doing.{if_err_too}
use Rattle.mqtt_broker_step.proofs.Resumed.{will_kept}
use Rattle.mqtt_broker_step.proofs.step.Step.put_will.Goals as goal

pub returns-clause-left : goal.returns-clause-left
returns-clause-left c =
    if_err_too c.make.result
    (λ fault is same. will_kept c.args.birth c.args.will fault c.args.self.now c.make.new.self (subst (λ (row : Change). IsRefusedRow row fault) c.will_row.ensures is) same)
    c.make.ensures.fault c.make.ensures.err

use Rattle.mqtt_broker_step.proofs.Doing.{on_ok}
use Rattle.mqtt_broker_step.proofs.Sendings.{sent_other}
use Rattle.mqtt_broker_step.proofs.step.Step.send_spelled.Goals as goal

pub returns-clause-ok : goal.returns-clause-ok
returns-clause-ok c = λ packet other exact.
    on_ok c.put_out.result (sent_other c.args.line packet c.args.bytes c.args.self.now c.put_out.new.self other exact) c.put_out.ensures.ok

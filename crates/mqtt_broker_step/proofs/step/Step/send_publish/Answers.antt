use Rattle.mqtt_broker_step.proofs.Doing.{on_ok}
use Rattle.mqtt_broker_step.proofs.Sendings.{sent_publish}
use Rattle.mqtt_broker_step.proofs.step.Step.send_publish.Goals as goal

pub returns-in-Ok-clause-ok : goal.returns-in-Ok-clause-ok
returns-in-Ok-clause-ok c = λ p is.
    on_ok c.put_out.result
    (sent_publish c.args.line p c.args.out c.args.self.now c.tell_topic.new.self c.put_out.new.self is c.in-Ok.ensures.ok)
    c.put_out.ensures.ok

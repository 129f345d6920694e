use Rattle.std.proofs.Common.{subst}
use Rattle.std.specs.Prelude.{IfErr}
use Rattle.mqtt_records.specs.declared.messages.message.MessageCopy.{MessageCopy}
use Rattle.mqtt_rules.specs.step.Routing.{deliver}
use Rattle.mqtt_broker_step.specs.Stepping.{Leaves}
use Rattle.mqtt_broker_queue.specs.publications.Delivering.{addressed}
use Rattle.mqtt_broker_queue.proofs.publications.delivering.deliver_one.Goals as goal

pub returns-clause-left : goal.returns-clause-left
returns-clause-left c =
    subst (λ (copy : MessageCopy). IfErr c.deliver-done.result (λ fault. Leaves (λ env. deliver env (addressed copy)) fault c.args.step.now c.deliver-done.new.step))
    c.apart-common.ensures c.deliver-done.ensures.left

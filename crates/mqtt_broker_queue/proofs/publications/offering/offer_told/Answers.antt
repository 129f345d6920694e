use Rattle.std.proofs.Common.{subst}
use Rattle.std.specs.Prelude.{IfErr, OnOk}
use Rattle.mqtt_records.specs.declared.messages.message.MessageCopy.{MessageCopy}
use Rattle.mqtt_broker_step.specs.Stepping.{Did, IsLeft}
use Rattle.mqtt_broker_queue.specs.queues.Fitting.{offers}
use Rattle.mqtt_broker_queue.proofs.publications.offering.offer_told.Goals as goal

pub returns-clause-ok : goal.returns-clause-ok
returns-clause-ok g c =
    subst (λ (copy : MessageCopy). OnOk c.offer_publish-offered.result (Did (offers c.args.line copy) c.args.step.now c.offer_publish-offered.new.step))
    c.in_ok-copy.ensures c.offer_publish-offered.ensures.ok

pub returns-clause-left : goal.returns-clause-left
returns-clause-left g c =
    subst (λ (copy : MessageCopy). IfErr c.offer_publish-offered.result (λ fault. IsLeft (offers c.args.line copy) fault c.args.step.now c.offer_publish-offered.new.step))
    c.in_ok-copy.ensures c.offer_publish-offered.ensures.left

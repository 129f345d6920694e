use Rattle.std.proofs.Common.{refl}
use Rattle.mqtt_rules.specs.step.Inbound.{on_publish}
use Rattle.mqtt_broker_step.specs.declared.fault.StepFault.TheVariants.{Memory}
use Rattle.mqtt_broker_queue.proofs.publications_lemmas.Routed.{nothing_left}
use Rattle.mqtt_broker_queue.proofs.publications.client_publish.on_publish.Goals as goal

pub returns-in-Err-Memory-clause-left : goal.returns-in-Err-Memory-clause-left
returns-in-Err-Memory-clause-left g c = λ l s found stands.
    nothing_left (λ env. on_publish env l s c.args.publish.now) Memory c.args.step.now c.args.step.now refl refl

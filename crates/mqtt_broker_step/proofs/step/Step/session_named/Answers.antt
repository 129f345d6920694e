use Rattle.mqtt_broker_step.proofs.Named.{stands_by_birth}
use Rattle.mqtt_broker_step.proofs.step.Step.session_named.Goals as goal

pub returns-clause-stands : goal.returns-clause-stands
returns-clause-stands c = λ s found. stands_by_birth c.args.client.now c.args.self.now.broker.records.sessions s c.show_order.ensures found

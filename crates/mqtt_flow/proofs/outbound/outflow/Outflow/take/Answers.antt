use Rattle.mqtt_flow.proofs.outbound_lemmas.outbound.Queues.{is_queue-after}
use Rattle.mqtt_flow.proofs.outbound.outflow.Outflow.take.Goals as goal

pub invariant_of-self : goal.invariant_of-self
invariant_of-self c = rw (c.apply.ensures.items) (is_queue-after c.args.turn c.self.inside.entries.items c.requires c.self.invariant)

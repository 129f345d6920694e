use Rattle.mqtt_flow.proofs.outbound_lemmas.outbound.Queues.{is_queue-anew}
use Rattle.mqtt_flow.proofs.outbound.outflow.Outflow.reconnect.Goals as goal

pub invariant_of-self : goal.invariant_of-self
invariant_of-self c = rw (c.forget.ensures.items) (is_queue-anew c.self.inside.entries.items c.self.invariant)

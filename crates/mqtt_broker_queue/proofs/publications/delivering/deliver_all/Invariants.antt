use Rattle.mqtt_broker_queue.proofs.publications_lemmas.Delivered.{Handing}
use Rattle.mqtt_broker_queue.proofs.publications.delivering.deliver_all.Given as goal

abbrev pub invariant-loop-copy : goal.invariant-loop-copy
invariant-loop-copy l = Handing l.copy-iterator.rest.items l.fn.copies.items l.fn.step l.step

use Rattle.mqtt_broker_acts.proofs.subscribing_lemmas.LateCopies.{Sending}
use Rattle.mqtt_broker_acts.proofs.subscribing.late.send_late.Given as goal

abbrev pub invariant-loop-copy : goal.invariant-loop-copy
invariant-loop-copy l = Sending l.fn.line l.copy-iterator.rest.items l.fn.copies.items l.fn.step l.step

use Rattle.mqtt_broker_queue.proofs.queues_lemmas.Taking.{Taking}
use Rattle.mqtt_broker_queue.proofs.queues.turns.take_turns.Given as goal

abbrev pub invariant-loop-taken : goal.invariant-loop-taken
invariant-loop-taken l = Taking l.taken-iterator.rest.items l.fn.turns.items l.line l.birth l.fn.step l.step

use Rattle.mqtt_broker_acts.specs.connecting.Connecting.{repeats}
use Rattle.mqtt_broker_acts.proofs.connecting_lemmas.GoingOn.{GoesOn}
use Rattle.mqtt_broker_acts.proofs.connecting.repeating.repeat_all.Given as goal

abbrev pub invariant-loop-turn : goal.invariant-loop-turn
invariant-loop-turn l = GoesOn (repeats l.line l.turn-iterator.rest.items) (repeats l.line l.fn.turns.items) l.fn.step l.step

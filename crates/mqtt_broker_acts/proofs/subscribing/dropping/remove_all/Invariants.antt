use Rattle.mqtt_broker_acts.proofs.subscribing_lemmas.Removed.{Removing}
use Rattle.mqtt_broker_acts.proofs.subscribing.dropping.remove_all.Given as goal

abbrev pub invariant-loop-filter : goal.invariant-loop-filter
invariant-loop-filter l = Removing l.fn.birth l.filter-iterator.rest.items l.fn.filters.items l.fn.step l.step

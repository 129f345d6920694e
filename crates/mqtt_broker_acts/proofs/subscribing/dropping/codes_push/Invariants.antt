-- The codes so far, and those of the rest, are the codes of all.
use Rattle.std.proofs.Common.{length}
use Rattle.mqtt_broker_acts.proofs.subscribing_lemmas.Dropped.{Coding}
use Rattle.mqtt_broker_acts.proofs.subscribing.dropping.codes_push.Given as goal

abbrev pub invariant-loop-filter : goal.invariant-loop-filter
invariant-loop-filter l = Coding l.rest l.filters l.codes.items l.gone.items l.session

abbrev pub decreases-loop-filter : goal.decreases-loop-filter
decreases-loop-filter l = length l.rest

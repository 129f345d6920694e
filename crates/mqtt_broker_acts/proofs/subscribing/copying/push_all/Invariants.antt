-- Those so far, and those of the rest, are all.
use Rattle.std.proofs.Common.{length}
use Rattle.mqtt_broker_acts.proofs.subscribing_lemmas.Chosen.{Pushing}
use Rattle.mqtt_broker_acts.proofs.subscribing.copying.push_all.Given as goal

abbrev pub invariant-loop-message : goal.invariant-loop-message
invariant-loop-message l = Pushing l.queued l.birth l.number l.options l.identifier l.rest l.kept l.copies.items l.fn.copies.items

abbrev pub decreases-loop-message : goal.decreases-loop-message
decreases-loop-message l = length l.rest

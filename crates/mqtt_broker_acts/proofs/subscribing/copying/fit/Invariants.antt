-- The rest has the room that is left just if all have the room that there was.
use Rattle.std.proofs.Common.{length}
use Rattle.mqtt_broker_acts.proofs.subscribing_lemmas.Chosen.{Fitting}
use Rattle.mqtt_broker_acts.proofs.subscribing.copying.fit.Given as goal

abbrev pub invariant-loop-message : goal.invariant-loop-message
invariant-loop-message l = Fitting l.options l.rest l.kept l.room l.fn.room

abbrev pub decreases-loop-message : goal.decreases-loop-message
decreases-loop-message l = length l.rest

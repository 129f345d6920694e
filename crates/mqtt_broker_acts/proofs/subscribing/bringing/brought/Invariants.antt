-- Those so far, and those of the rest, are all that are brought.
use Rattle.std.proofs.Common.{length}
use Rattle.mqtt_broker_acts.proofs.subscribing_lemmas.BroughtMessages.{Bringing}
use Rattle.mqtt_broker_acts.proofs.subscribing.bringing.brought.Given as goal

abbrev pub invariant-loop-kept : goal.invariant-loop-kept
invariant-loop-kept l = Bringing l.moment l.session l.asked l.options l.rest l.step.broker.records.retained l.all.items

abbrev pub decreases-loop-kept : goal.decreases-loop-kept
decreases-loop-kept l = length l.rest

-- What becomes of the rest leads on to what becomes of all.
use Rattle.std.proofs.Common.{length}
use Rattle.mqtt_broker_acts.proofs.subscribing_lemmas.AllAnswers.{Answering}
use Rattle.mqtt_broker_acts.proofs.subscribing.answering.answer_all.Given as goal

abbrev pub invariant-loop-asked : goal.invariant-loop-asked
invariant-loop-asked l = Answering l.fn.birth l.fn.identifier l.rest l.filters l.codes.items l.late.items l.fn.step l.step

abbrev pub decreases-loop-asked : goal.decreases-loop-asked
decreases-loop-asked l = length l.rest

use Rattle.mqtt_broker_acts.proofs.closing_lemmas.Ended.{Ends}
use Rattle.mqtt_broker_acts.proofs.closing.ending.end_session.Given as goal

abbrev pub invariant-loop-left : goal.invariant-loop-left
invariant-loop-left l = Ends l.fn.birth l.left l.fn.step l.step

abbrev pub decreases-loop-left : goal.decreases-loop-left
decreases-loop-left l =
    l.left

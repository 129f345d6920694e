use Rattle.mqtt_broker_looks.proofs.at_hand_lemmas.Reading.{HasFirst}
use Rattle.mqtt_broker_looks.proofs.at_hand.hand.AllAtHand.fetch.Given as goal

abbrev pub invariant-loop-place : goal.invariant-loop-place
invariant-loop-place g l = HasFirst g.K.Keep l.birth l.places l.fn.keep l.fn.self l.place-index l.keep l.self l.all.items

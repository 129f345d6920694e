use Rattle.mqtt_flow.proofs.ring_lemmas.LawLemmas.{entered_is_found, entered_others, left_is_gone, left_others}
use Rattle.mqtt_flow.proofs.ring.laws.others_stay_at_hand.Goals as goal

pub returns-clause-found : goal.returns-clause-found
returns-clause-found g c = entered_is_found

pub returns-clause-others_of_entered : goal.returns-clause-others_of_entered
returns-clause-others_of_entered g c = entered_others

pub returns-clause-gone : goal.returns-clause-gone
returns-clause-gone g c = left_is_gone

pub returns-clause-others_of_left : goal.returns-clause-others_of_left
returns-clause-others_of_left g c = left_others

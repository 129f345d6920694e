use Rattle.mqtt_flow.proofs.ring_lemmas.LawLemmas.{found_is_told, entered_is_told, left_is_told}
use Rattle.mqtt_flow.proofs.ring.laws.at_hand_is_what_is_told.Goals as goal

pub returns-clause-found : goal.returns-clause-found
returns-clause-found g c = λ told a place content says is. found_is_told told a.entries place content says is

pub returns-clause-entered : goal.returns-clause-entered
returns-clause-entered g c = entered_is_told

pub returns-clause-left : goal.returns-clause-left
returns-clause-left g c = left_is_told

use Rattle.mqtt_flow.proofs.ring_lemmas.LawLemmas.{entered_stretch, left_stretch}
use Rattle.mqtt_flow.proofs.ring.laws.stays_consecutive.Goals as goal

pub returns-clause-entered : goal.returns-clause-entered
returns-clause-entered g c = entered_stretch

pub returns-clause-left : goal.returns-clause-left
returns-clause-left g c = left_stretch

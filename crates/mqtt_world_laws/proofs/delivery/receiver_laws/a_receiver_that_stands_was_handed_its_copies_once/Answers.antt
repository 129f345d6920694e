-- By the law of the hop, with each copy numbered by its place.
use Rattle.mqtt_world_laws.proofs.receiver_lemmas.queue.Numbers.{place_of}
use Rattle.mqtt_world_laws.proofs.delivery_lemmas.others.Standings.{handed_in_order, handed_once, handed_released, runs_so}
use Rattle.mqtt_world_laws.proofs.delivery.receiver_laws.a_receiver_that_stands_was_handed_its_copies_once.Goals as goal

pub returns-clause-runs : goal.returns-clause-runs
returns-clause-runs c = λ client largest limits ids ns r w h e. (place_of ids, runs_so client largest limits ids ns r w h e)

pub returns-clause-once : goal.returns-clause-once
returns-clause-once c = handed_once

pub returns-clause-in_order : goal.returns-clause-in_order
returns-clause-in_order c = handed_in_order

pub returns-clause-released : goal.returns-clause-released
returns-clause-released c = handed_released

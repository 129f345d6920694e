use Rattle.mqtt_rules.proofs.step_lemmas.order.OrderedAccepted.{accepted_within}
use Rattle.mqtt_rules.proofs.step_lemmas.order.Entered.{has_entered}
use Rattle.mqtt_rules.proofs.step.routing_laws.copies_find_room.Goals as goal

pub returns-clause-accepted : goal.returns-clause-accepted
returns-clause-accepted c = λ env m b copies birth is up. accepted_within env m b copies birth is up

pub returns-clause-entered : goal.returns-clause-entered
returns-clause-entered c = has_entered

-- Each call and each opening keeps identifiers apart.
use Rattle.mqtt_world_laws.proofs.delivery_lemmas.broker.Alone.{Distinct, distinct_kept, event_keeps, run_keeps}
use Rattle.mqtt_world_laws.proofs.delivery.broker_laws.identifiers_in_flight_stay_unique.Goals as goal

pub returns-clause-event : goal.returns-clause-event
returns-clause-event c = λ e set w within s good unspent h. event_keeps Distinct e set w (distinct_kept set.limits) within s good unspent h

pub returns-clause-runs : goal.returns-clause-runs
returns-clause-runs c = λ limits ts w new fair h. run_keeps Distinct limits ts w (distinct_kept limits) new fair h
